-- What is left once an output is handed out.
use Rattle.std.proofs.Common.{◌≡◌, ◌∙◌, sym, subst, ℤ, true, List, [], ◌∷◌, ◌++◌, map, refl, ap}
use Rattle.std.specs.Prelude.{Option, Some, None, IfNone, filter, option_to_list}
use Rattle.kr_calls.specs.declared.events.Entry.{Entry}
use Rattle.kr_calls.specs.declared.events.Output.{Output}
use Rattle.kr_model.specs.declared.writes.Told.{Told}
use Rattle.kr_model.specs.declared.writes.Write.{Write}
use Rattle.kr_model.specs.Engine.{Core, Hands, IsEngine, HandsTold, output_of, outputs_left, told_left, writes_in_order}
use Rattle.kr_model.specs.Outputs.{answers, due_reply, due_writes, is_open, told_alone, told_answers, told_reply}
use Rattle.kr_model.specs.World.{State}

abbrev due : Core → List Output
due e = answers e.leading e.closed e.held

-- what an engine has to hand out yet is no part of what it stands for
pub handing_out_stands : (e : Core) (outputs : List Output) (refusal : Option Output) (fresh : List Entry) (s : State) (writes : List Write)
    → IsEngine e s writes → IsEngine (record e { given = outputs; refusal = refusal; fresh = fresh }) s writes
handing_out_stands e outputs refusal fresh s writes k = record {
  tip = k.tip;
  committed = k.committed;
  closed = k.closed;
  leading = k.leading;
  greatest = k.greatest;
  count = k.count;
  time = k.time;
  led = k.led;
  heard_of = k.heard_of;
  present = k.present;
  kept = k.kept;
  begun = k.begun;
  kept_begun = k.kept_begun;
  weighed = k.weighed;
  waits = k.waits;
  ordered = k.ordered;
  is_state = k.is_state;
}

held_stands : (e : Core) (held : List Write) → filter (is_open e.leading e.closed) held ≡ filter (is_open e.leading e.closed) e.held → writes_in_order held ≡ true
    → (s : State) (writes : List Write) → IsEngine e s writes → IsEngine (record e { held = held }) s writes
held_stands e held opens ordered s writes k = record {
  tip = k.tip;
  committed = k.committed;
  closed = k.closed;
  leading = k.leading;
  greatest = k.greatest;
  count = k.count;
  time = k.time;
  led = k.led;
  heard_of = k.heard_of;
  present = k.present;
  kept = k.kept;
  begun = k.begun;
  kept_begun = k.kept_begun;
  weighed = k.weighed;
  waits = opens ∙ k.waits;
  ordered = ordered;
  is_state = k.is_state;
}

module _ (e : Core) (ordered : writes_in_order e.held ≡ true) where
  first_given : (output : Output) (rest : List Output) → e.given ≡ output ∷ rest → Hands e (record e { given = rest }) (Some output)
  first_given output rest is = record {
    options = refl;
    in_order = ap (λ g. g ++ option_to_list e.refusal ++ due e) is;
    all = λ none. absurd cc;
    ordered = ordered;
    fresh = refl;
    stands = handing_out_stands e rest e.refusal e.fresh;
  }

  then_refusal : (output : Output) → e.given ≡ [] → e.refusal ≡ Some output → Hands e (record e { refusal = None }) (Some output)
  then_refusal output none is = record {
    options = refl;
    in_order =
        ap (λ g. (g ++ option_to_list e.refusal) ++ due e) none
        ∙ (ap (λ o. option_to_list o ++ due e) is
        ∙ sym (ap (λ g. output ∷ ((g ++ []) ++ due e)) none));
    all = λ none. absurd cc;
    ordered = ordered;
    fresh = refl;
    stands = handing_out_stands e e.given None e.fresh;
  }

  only_due : (held : List Write) → e.given ≡ [] → e.refusal ≡ None → outputs_left (record e { held = held }) ≡ answers e.leading e.closed held
  only_due held none is =
      ap (λ g. g ++ option_to_list e.refusal ++ answers e.leading e.closed held) none
      ∙ ap (λ o. option_to_list o ++ answers e.leading e.closed held) is

  if_none : (o : Option Output) (P : Type 0) → IfNone o P → o ≡ None → P
  if_none None P p is = p
  if_none (Some x) P p is = absurd cc

  then_due : (held : List Write) (output : Option Output) → e.given ≡ [] → e.refusal ≡ None
      → due e ≡ option_to_list output ++ answers e.leading e.closed held
      → IfNone output (answers e.leading e.closed held ≡ [])
      → filter (is_open e.leading e.closed) held ≡ filter (is_open e.leading e.closed) e.held → writes_in_order held ≡ true
      → Hands e (record e { held = held }) output
  then_due held output none is in_order all opens after = record {
    options = refl;
    in_order = only_due e.held none is ∙ (in_order ∙ ap (λ rest. option_to_list output ++ rest) (sym (only_due held none is)));
    all = λ no. only_due held none is ∙ if_none output (answers e.leading e.closed held ≡ []) all no;
    ordered = after;
    fresh = refl;
    stands = held_stands e held opens after;
  }

-- ---- what is told with them

told_outputs : (end : ℤ) (writes : List Write) → map (λ (t : Told). t.output) (map (told_reply end) writes) ≡ map (due_reply end) writes
told_outputs end [] = refl
told_outputs end (write ∷ writes) = ap (λ rest. due_reply end write ∷ rest) (told_outputs end writes)

one_more : (told : Option Told) (rest : List Told) → map (λ (t : Told). t.output) (option_to_list told ++ rest) ≡ option_to_list (output_of told) ++ map (λ (t : Told). t.output) rest
one_more None rest = refl
one_more (Some t) rest = refl

-- the replies that are due, where this is told first
answers_so : (leading : Option ℤ) (end : ℤ) (old new : List Write) (told : Option Told) → told_answers leading end old ≡ option_to_list told ++ told_answers leading end new
    → answers leading end old ≡ option_to_list (output_of told) ++ answers leading end new
answers_so leading end old new told is =
    sym (told_outputs end (due_writes leading end old))
    ∙ (ap (map (λ (t : Told). t.output)) is
    ∙ (one_more told (told_answers leading end new)
    ∙ ap (λ rest. option_to_list (output_of told) ++ rest) (told_outputs end (due_writes leading end new))))

none_so : (leading : Option ℤ) (end : ℤ) (writes : List Write) (told : Option Told) → IfNone told (told_answers leading end writes ≡ []) → IfNone (output_of told) (answers leading end writes ≡ [])
none_so leading end writes None none = sym (told_outputs end (due_writes leading end writes)) ∙ ap (map (λ (t : Told). t.output)) none
none_so leading end writes (Some t) none = tt

abbrev due_told : Core → List Told
due_told e = told_answers e.leading e.closed e.held

told_given : (e : Core) (output : Output) (rest : List Output) → e.given ≡ output ∷ rest → HandsTold e (record e { given = rest }) (Some (told_alone output))
told_given e output rest is = ap (λ g. map told_alone (g ++ option_to_list e.refusal) ++ due_told e) is

told_refusal : (e : Core) (output : Output) → e.given ≡ [] → e.refusal ≡ Some output → HandsTold e (record e { refusal = None }) (Some (told_alone output))
told_refusal e output none is =
    ap (λ g. map told_alone (g ++ option_to_list e.refusal) ++ due_told e) none
    ∙ (ap (λ o. map told_alone (option_to_list o) ++ due_told e) is
    ∙ sym (ap (λ g. told_alone output ∷ (map told_alone (g ++ []) ++ due_told e)) none))

only_told : (e : Core) (held : List Write) → e.given ≡ [] → e.refusal ≡ None → told_left (record e { held = held }) ≡ told_answers e.leading e.closed held
only_told e held none is =
    ap (λ g. map told_alone (g ++ option_to_list e.refusal) ++ told_answers e.leading e.closed held) none
    ∙ ap (λ o. map told_alone (option_to_list o) ++ told_answers e.leading e.closed held) is

told_due : (e : Core) (held : List Write) (told : Option Told) → e.given ≡ [] → e.refusal ≡ None → due_told e ≡ option_to_list told ++ told_answers e.leading e.closed held → HandsTold e (record e { held = held }) told
told_due e held told none is in_order = only_told e e.held none is ∙ (in_order ∙ ap (λ rest. option_to_list told ++ rest) (sym (only_told e held none is)))

-- ---- with the engine that a call leaves

-- an output is handed out, and no more is told of it
record Gives (e after : Core) (told : Option Told) : Type 0 where
  hands : Hands e after (output_of told)
  tells : HandsTold e after told

-- nothing was given out
same_given : (e after : Core) → e.given ≡ after.given → after ≡ record e { given = after.given } → after ≡ e
same_given e after is same = same ∙ ap (λ g. record e { given = g }) (sym is)

same_refusal : (e after : Core) → e.refusal ≡ None → after ≡ record e { refusal = None } → after ≡ e
same_refusal e after is same = same ∙ ap (λ r. record e { refusal = r }) (sym is)

given_so : (e after : Core) (output : Output) (told : Told) → writes_in_order e.held ≡ true → e.given ≡ output ∷ after.given → after ≡ record e { given = after.given } → told ≡ told_alone output → Gives e after (Some told)
given_so e after output told ordered given same is =
    subst (λ (t : Told). Gives e after (Some t)) (sym is)
    (subst (λ (a : Core). Gives e a (Some (told_alone output))) (sym same)
    (record { hands = first_given e ordered output after.given given; tells = told_given e output after.given given }))

refusal_so : (e between after : Core) (output : Output) (told : Told) → writes_in_order e.held ≡ true → e.given ≡ between.given → between.given ≡ [] → between ≡ record e { given = between.given }
    → Some output ≡ between.refusal → after ≡ record between { refusal = None } → told ≡ told_alone output → Gives e after (Some told)
refusal_so e between after output told ordered given none same is left told_is =
    let b = same_given e between given same in
    let refused = sym (is ∙ ap (λ (b : Core). b.refusal) b) in
    subst (λ (t : Told). Gives e after (Some t)) (sym told_is)
    (subst (λ (a : Core). Gives e a (Some (told_alone output))) (sym (left ∙ ap (λ (b : Core). record b { refusal = None }) b))
    (record { hands = then_refusal e ordered output (given ∙ none) refused; tells = told_refusal e output (given ∙ none) refused }))

answer_so : (e given_out between after : Core) (told : Option Told) → writes_in_order e.held ≡ true → e.given ≡ given_out.given → given_out.given ≡ [] → given_out ≡ record e { given = given_out.given }
    → None ≡ given_out.refusal → between ≡ record given_out { refusal = None }
    → told_answers between.leading between.closed between.held ≡ option_to_list told ++ told_answers between.leading between.closed after.held
    → IfNone told (told_answers between.leading between.closed after.held ≡ [])
    → filter (is_open between.leading between.closed) after.held ≡ filter (is_open between.leading between.closed) between.held
    → writes_in_order after.held ≡ true → after ≡ record between { held = after.held } → Gives e after told
answer_so e given_out between after told ordered given none same no_refusal left in_order all waits then is =
    let first = same_given e given_out given same in
    let both = same_refusal given_out between (sym no_refusal) left ∙ first in
    let held = after.held in
    let no_given = given ∙ none in
    let no_refused = sym (no_refusal ∙ ap (λ (b : Core). b.refusal) first) in
    let is_first = subst (λ (b : Core). told_answers b.leading b.closed b.held ≡ option_to_list told ++ told_answers b.leading b.closed held) both in_order in
    subst (λ (a : Core). Gives e a told) (sym (is ∙ ap (λ (b : Core). record b { held = held }) both))
    (record {
      hands =
          then_due e ordered held (output_of told) no_given no_refused
          (answers_so e.leading e.closed e.held held told is_first)
          (none_so e.leading e.closed held told (subst (λ (b : Core). IfNone told (told_answers b.leading b.closed held ≡ [])) both all))
          (subst (λ (b : Core). filter (is_open b.leading b.closed) held ≡ filter (is_open b.leading b.closed) b.held) both waits)
          then;
      tells = told_due e held told no_given no_refused is_first;
    })

pub hands_given : (e after : Core) (output : Output) (told : Told) → writes_in_order e.held ≡ true → e.given ≡ output ∷ after.given → after ≡ record e { given = after.given } → told ≡ told_alone output → Hands e after (output_of (Some told))
hands_given e after output told ordered given same is = (given_so e after output told ordered given same is).hands

pub tells_given : (e after : Core) (output : Output) (told : Told) → writes_in_order e.held ≡ true → e.given ≡ output ∷ after.given → after ≡ record e { given = after.given } → told ≡ told_alone output → HandsTold e after (Some told)
tells_given e after output told ordered given same is = (given_so e after output told ordered given same is).tells

pub hands_refusal : (e between after : Core) (output : Output) (told : Told) → writes_in_order e.held ≡ true → e.given ≡ between.given → between.given ≡ [] → between ≡ record e { given = between.given }
    → Some output ≡ between.refusal → after ≡ record between { refusal = None } → told ≡ told_alone output → Hands e after (output_of (Some told))
hands_refusal e between after output told ordered given none same is left told_is = (refusal_so e between after output told ordered given none same is left told_is).hands

pub tells_refusal : (e between after : Core) (output : Output) (told : Told) → writes_in_order e.held ≡ true → e.given ≡ between.given → between.given ≡ [] → between ≡ record e { given = between.given }
    → Some output ≡ between.refusal → after ≡ record between { refusal = None } → told ≡ told_alone output → HandsTold e after (Some told)
tells_refusal e between after output told ordered given none same is left told_is = (refusal_so e between after output told ordered given none same is left told_is).tells

pub hands_answer : (e given_out between after : Core) (told : Option Told) → writes_in_order e.held ≡ true → e.given ≡ given_out.given → given_out.given ≡ [] → given_out ≡ record e { given = given_out.given }
    → None ≡ given_out.refusal → between ≡ record given_out { refusal = None }
    → told_answers between.leading between.closed between.held ≡ option_to_list told ++ told_answers between.leading between.closed after.held
    → IfNone told (told_answers between.leading between.closed after.held ≡ [])
    → filter (is_open between.leading between.closed) after.held ≡ filter (is_open between.leading between.closed) between.held
    → writes_in_order after.held ≡ true → after ≡ record between { held = after.held } → Hands e after (output_of told)
hands_answer e given_out between after told ordered given none same no_refusal left in_order all waits then is =
    (answer_so e given_out between after told ordered given none same no_refusal left in_order all waits then is).hands

pub tells_answer : (e given_out between after : Core) (told : Option Told) → writes_in_order e.held ≡ true → e.given ≡ given_out.given → given_out.given ≡ [] → given_out ≡ record e { given = given_out.given }
    → None ≡ given_out.refusal → between ≡ record given_out { refusal = None }
    → told_answers between.leading between.closed between.held ≡ option_to_list told ++ told_answers between.leading between.closed after.held
    → IfNone told (told_answers between.leading between.closed after.held ≡ [])
    → filter (is_open between.leading between.closed) after.held ≡ filter (is_open between.leading between.closed) between.held
    → writes_in_order after.held ≡ true → after ≡ record between { held = after.held } → HandsTold e after told
tells_answer e given_out between after told ordered given none same no_refusal left in_order all waits then is =
    (answer_so e given_out between after told ordered given none same no_refusal left in_order all waits then is).tells

pub ruleset handing = (hands_given, tells_given, hands_refusal, tells_refusal, hands_answer, tells_answer)
