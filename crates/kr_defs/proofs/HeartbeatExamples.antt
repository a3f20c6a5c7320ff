-- Heartbeats by computation: brokers beat, stop, leave and expire.
use Rattle.std.proofs.Common.{◌≡◌, refl, true, false, [], ◌∷◌, pos, negsuc, Some, None}
use Rattle.kr_defs.specs.Heartbeats.{Heartbeats, begin, end, beat, leave, stop, valid, lowest_offset, stopped_at, expired, is_not_before}

-- broker 1 is heard of at 10, broker 2 at 10, and broker 1 again at 12
abbrev three_beats : Heartbeats
three_beats = beat (beat (beat end (pos 1) (pos 10) (pos 4)) (pos 2) (pos 10) (pos 7)) (pos 1) (pos 12) (pos 5)

last_is_1 : three_beats ≡ record {
  contacts = record { broker = pos 2; time = pos 10; offset = pos 7 } ∷ record { broker = pos 1; time = pos 12; offset = pos 5 } ∷ [];
  stopping = [];
}
last_is_1 = refl

expired_at_11 : expired three_beats (pos 11) ≡ pos 2 ∷ []
expired_at_11 = refl

expired_at_10 : expired three_beats (pos 10) ≡ pos 2 ∷ []
expired_at_10 = refl

expired_at_9 : expired three_beats (pos 9) ≡ []
expired_at_9 = refl

stranger_leaves : leave three_beats (pos 3) ≡ three_beats
stranger_leaves = refl

lowest : lowest_offset three_beats (pos 2 ∷ pos 1 ∷ []) ≡ Some (pos 5)
lowest = refl

-- of the given brokers alone
lowest_of_2 : lowest_offset three_beats (pos 2 ∷ []) ≡ Some (pos 7)
lowest_of_2 = refl

lowest_of_none : lowest_offset three_beats [] ≡ None
lowest_of_none = refl

-- a session of 9 milliseconds from 10 on
still_valid : valid three_beats (pos 2) (pos 18) 9 ≡ true
still_valid = refl

no_more_valid : valid three_beats (pos 2) (pos 19) 9 ≡ false
no_more_valid = refl

stranger_valid : valid three_beats (pos 3) (pos 10) 9 ≡ false
stranger_valid = refl

not_before_11 : is_not_before three_beats (pos 11) ≡ false
not_before_11 = refl

not_before_12 : is_not_before three_beats (pos 12) ≡ true
not_before_12 = refl

-- at Lead, at place 30 and time 5: brokers 1, 2 and 3, of which 3 is stopping
abbrev led : Heartbeats
led = begin (pos 1 ∷ pos 2 ∷ pos 3 ∷ []) (pos 3 ∷ []) (pos 5) (pos 30)

nothing_reported : lowest_offset led (pos 1 ∷ pos 2 ∷ []) ≡ Some (negsuc 0)
nothing_reported = refl

stopped_at_lead : stopped_at led (pos 3) ≡ Some (pos 30)
stopped_at_lead = refl

stopped_later : stopped_at (stop led (pos 1) (pos 40)) (pos 1) ≡ Some (pos 40)
stopped_later = refl

-- who leaves is in neither list
left_both : leave led (pos 3) ≡ begin (pos 1 ∷ pos 2 ∷ []) [] (pos 5) (pos 30)
left_both = refl

-- who is stopping beats on
stopping_beats : stopped_at (beat led (pos 3) (pos 6) (pos 31)) (pos 3) ≡ Some (pos 30)
stopping_beats = refl
