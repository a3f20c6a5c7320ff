-- What was given out so far, one output more, and then all.
use Rattle.std.proofs.Common.{◌≡◌, ◌∙◌, sym, ap, subst, refl, ℕ, ◌≤◌, ◌+◌, Bool, true, List, [], ◌∷◌, ◌++◌, fold, arith}
use Rattle.std.specs.Prelude.{Option, Some, None}
use Rattle.std.proofs.lemmas.List.Sums.{fold-append}
use Rattle.kr_calls.specs.declared.calls.Reply.{Reply}
use Rattle.kr_calls.specs.declared.events.Reason.{Reason}
use Rattle.kr_model.specs.declared.writes.Told.{Told}
use Rattle.kr_model.specs.Engine.{Core, Hands, HandsTold, output_of}
use Rattle.kr_shared.specs.declared.taking.Given.{Given}
use Rattle.kr_shared.specs.Answers.{Answering, answering, or_reason, or_reply, with_told}
use Rattle.kr_shared.specs.Gives.{Gives, GivesOne, GivesOut}
use Rattle.kr_shared.specs.Lines.{HasLineRoom, LineView}
use Rattle.kr_shared.proofs.Appending.{appends_more}
use Rattle.kr_shared.proofs.Fronts.{IsFront, emptied, fewer_left, nothing_yet, one_more}

pub record SoFar (before now : Core) (pieces pieces' : Option (List (List ℕ))) (faults faults' : ℕ) (old new : LineView) (given : Given) : Type 0 where
  pub told : List Told
  pub front : IsFront before now told
  pub gives : Gives pieces pieces' faults faults' old new told given

pub nothing_given : (e : Core) (pieces : Option (List (List ℕ))) (faults : ℕ) (l : LineView) → SoFar e e pieces pieces faults faults l l (record { appended = true; refusal = None; reply = None })
nothing_given e pieces faults l = record {
  told = [];
  front = nothing_yet e;
  gives = record { appends = (refl, refl); refused = refl; reply = refl; answers = refl; fewer = omega arith; same = refl };
}

pub one_given : (before now after : Core) (pieces mid pieces' : Option (List (List ℕ))) (faults then faults' : ℕ) (old between new : LineView) (g g' : Given) (t : Told)
    → SoFar before now pieces mid faults then old between g → Hands now after (output_of (Some t)) → HandsTold now after (Some t) → GivesOne mid pieces' then faults' between new g t g'
    → SoFar before after pieces pieces' faults faults' old new g'
one_given before now after pieces mid pieces' faults then faults' old between new g g' t h hands tells x = record {
  told = h.told ++ t ∷ [];
  front = one_more before now after h.told t h.front hands tells;
  gives = record {
    appends = appends_more h.told t pieces mid pieces' faults then faults' g.appended g'.appended h.gives.appends x.appends;
    refused = x.refused ∙ (ap (λ (r : Option Reason). or_reason r t) h.gives.refused ∙ sym (fold-append or_reason None h.told (t ∷ [])));
    reply = x.reply ∙ (ap (λ (r : Option Reply). or_reply r t) h.gives.reply ∙ sym (fold-append or_reply None h.told (t ∷ [])));
    answers = x.answers ∙ (ap (λ (s : Answering). with_told s t) h.gives.answers ∙ sym (fold-append with_told (answering old.waiting old.due) h.told (t ∷ [])));
    fewer = (let a = h.gives.fewer in let b = x.fewer in omega (arith, a, b));
    same = x.same ∙ h.gives.same;
  };
}

pub all_given : (before now after : Core) (pieces pieces' : Option (List (List ℕ))) (faults faults' : ℕ) (old new : LineView) (g : Given)
    → SoFar before now pieces pieces' faults faults' old new g → Hands now after None → GivesOut before after pieces pieces' faults faults' old new g
all_given before now after pieces pieces' faults faults' old new g h hands = record { told = h.told; emptied = emptied before now after h.told h.front hands; gives = h.gives }

pub still_room : (old new : LineView) → HasLineRoom old → (new.dues + new.waits) ≤ (old.dues + old.waits) → new.room ≡ old.room → HasLineRoom new
still_room old new room fewer same = let a : (old.dues + old.waits) ≤ old.room = room in omega (arith, a, fewer, same)

pub ruleset giving_out = (nothing_given, one_given, all_given, still_room, fewer_left)
