-- What all of some bytes are.
use Rattle.std.proofs.Common.{◌≡◌, ◌∙◌, inl, inr, ℕ, suc, true, false, List, [], ◌∷◌, append-nil, Some, None, Result, Ok, Err, refl, subst, sym, arith}
use Rattle.std.specs.Prelude.{◌==◌, drop, length}
use Rattle.std.proofs.lemmas.Bool.Decides.{nat_tests}
use Rattle.kr_wire.specs.declared.WireFault.{WireFault}
use Rattle.kr_wire.specs.Laws.{IsBytes}
use Rattle.kr_wire.specs.Reading.{Read}
use Rattle.kr_messages.specs.declared.fault.MessageFault.{MessageFault}
use Rattle.kr_messages.specs.declared.fault.MessageFault.TheVariants as faults
use Rattle.kr_messages.specs.declared.message_type.ApiMessageType.{ApiMessageType}
use Rattle.kr_messages.specs.Forms.{Form}
use Rattle.kr_messages.specs.Forms.{bare_form, reply_form}
use Rattle.kr_messages.specs.Layouts.{Encodes, decoded_at, is_decodable}
use Rattle.kr_messages.specs.Shown.{ShowsReply, ShowsText, StandForNone, response_form, served_form}
use Rattle.kr_messages.specs.inner.Taken.{ShowsForm, ShowsMessage, ReadsWhole, whole_of}
use Rattle.kr_messages.proofs.Layouts.{law}
use Rattle.kr_req.specs.declared.api.ApiKey.{ApiKey}

not_nothing : (n : ℕ) → (suc n == 0) ≡ true → ⊥
not_nothing n e = grind (arith, nat_tests)

module _ (f : Form) (bytes : List ℕ) where
  all_of_it : (left out : List ℕ) → ShowsForm f (Ok tt) bytes left [] out → (length left == 0) ≡ true → ReadsWhole f bytes (Ok out)
  all_of_it [] out t empty = record { value = t.value; is = rw t.took refl; text = t.wrote }
  all_of_it (x ∷ xs) out t empty = absurd (not_nothing (length xs) empty)

  pub whole_taken : (all left before out : List ℕ) → all ≡ drop 0 bytes → before ≡ [] → ShowsForm f (Ok tt) all left before out → (length left == 0) ≡ true → ReadsWhole f bytes (Ok out)
  whole_taken all left before out is none t empty = all_of_it left out (subst (λ (l : List ℕ). ShowsForm f (Ok tt) bytes left l out) none (subst (λ (l : List ℕ). ShowsForm f (Ok tt) l left before out) is t)) empty

  some_left : (left before out : List ℕ) → ShowsForm f (Ok tt) bytes left before out → (length left == 0) ≡ false → ReadsWhole f bytes (Err faults.BadMessage)
  some_left [] before out t some = absurd cc
  some_left (x ∷ xs) before out t some = rw t.took refl

  pub rest_left : (all left before out : List ℕ) → all ≡ drop 0 bytes → ShowsForm f (Ok tt) all left before out → (length left == 0) ≡ false → ReadsWhole f bytes (Err faults.BadMessage)
  rest_left all left before out is t some = some_left left before out (subst (λ (l : List ℕ). ShowsForm f (Ok tt) l left before out) is t) some

  not_read : (fault : WireFault) → decoded_at f.layout bytes ≡ Err fault → ReadsWhole f bytes (Err faults.BadMessage)
  not_read fault refused = rw refused refl

  pub unread : (all : List ℕ) (fault : WireFault) → all ≡ drop 0 bytes → decoded_at f.layout all ≡ Err fault → ReadsWhole f bytes (Err faults.BadMessage)
  unread all fault is refused = not_read fault (subst (λ (l : List ℕ). decoded_at f.layout l ≡ Err fault) is refused)

-- ---- what the bytes stand for

read_whole : {X : Type 0} (read : Read X) (x : X) → whole_of read ≡ Some x → read ≡ Ok (x, [])
read_whole (Ok (y, [])) x e = cc
read_whole (Ok (y, b ∷ left)) x e = absurd cc
read_whole (Err fault) x e = absurd cc

module _ (f : Form) (bytes : List ℕ) (readable : is_decodable f.layout ≡ true) where
  value_stands : IsBytes bytes → (value : f.Value) → whole_of (decoded_at f.layout bytes) ≡ Some value → Encodes f.layout value bytes
  value_stands fits value is =
      let front = (law f.layout readable).sound bytes fits value [] (read_whole (decoded_at f.layout bytes) value is) in
      subst (λ (l : List ℕ). Encodes f.layout value l) (sym (front.parts ∙ append-nil front.front)) front.holds

  value_found : (value : f.Value) → Encodes f.layout value bytes → whole_of (decoded_at f.layout bytes) ≡ Some value
  value_found value stands =
      let found = subst (λ (l : List ℕ). decoded_at f.layout l ≡ Ok (value, [])) (append-nil bytes) ((law f.layout readable).complete value bytes [] stands) in
      rw found refl

  none_stands : whole_of (decoded_at f.layout bytes) ≡ None → StandForNone f bytes
  none_stands none value stands = let clash = sym (value_found value stands) ∙ none in cc

  pub message_shown : IsBytes bytes → (result : Result (List ℕ) MessageFault) → ReadsWhole f bytes result → ShowsMessage f bytes result
  message_shown fits (Ok text) w = record { value = w.value; stands = value_stands fits w.value w.is; shown = w.text }
  message_shown fits (Err faults.BadMessage) w = none_stands w
  message_shown fits (Err faults.NoMemory) w = tt

-- ---- which form it is

pub shown_of_key : (api key : ApiKey) (bytes : List ℕ) (result : Result (List ℕ) MessageFault) → api ≡ key → ShowsMessage (reply_form (served_form key)) bytes result → ShowsMessage (reply_form (served_form api)) bytes result
shown_of_key api key bytes result is shown = subst (λ (k : ApiKey). ShowsMessage (reply_form (served_form k)) bytes result) (sym is) shown

pub shown_of_type : (asked one : ApiMessageType) (bytes : List ℕ) (result : Result (List ℕ) MessageFault) → asked ≡ one → ShowsMessage (reply_form (response_form one)) bytes result → ShowsMessage (reply_form (response_form asked)) bytes result
shown_of_type asked one bytes result is shown = subst (λ (t : ApiMessageType). ShowsMessage (reply_form (response_form t)) bytes result) (sym is) shown

module _ (asked : ApiMessageType) (bytes : List ℕ) where
  pub reply_shown : (text : List ℕ) → ShowsText (reply_form (response_form asked)) bytes text → ShowsReply asked bytes (Ok text)
  reply_shown text shown = inl shown

  pub or_bare : StandForNone (reply_form (response_form asked)) bytes → (result : Result (List ℕ) MessageFault) → ShowsMessage (reply_form bare_form) bytes result → ShowsReply asked bytes result
  or_bare none (Ok text) shown = inr shown
  or_bare none (Err faults.BadMessage) shown = (none, shown)
  or_bare none (Err faults.NoMemory) shown = tt
