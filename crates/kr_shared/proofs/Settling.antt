-- What is due stays due, or is published.
use Rattle.std.proofs.Common.{◌≡◌, ◌∙◌, sym, ap, subst, refl, arith, ◌+◌, ◌≤◌, ℤ, Bool, true, false, cond, List, [], ◌∷◌, ◌++◌, fold}
use Rattle.std.proofs.lemmas.List.{append-nil}
use Rattle.kr_calls.specs.declared.events.Entry.{Entry}
use Rattle.kr_calls.specs.RightAnswers.{AreRightAfter}
use Rattle.kr_calls.specs.SeatList.{IsClosedList, is_below}
use Rattle.kr_defs.specs.declared.options.Options.{Options}
use Rattle.kr_view.specs.CopiesRule.{GoesOn}
use Rattle.kr_view.specs.Shelves.{IsDelayed, MayPublish, Shelf, left_at, next_at, shown_at, with_staged}
use Rattle.kr_view.specs.Staged.{staged_above, staged_below}
use Rattle.kr_model.specs.Engine.{Core}
use Rattle.kr_shared.specs.declared.asked.Asked.{Asked}
use Rattle.kr_shared.specs.Desks.{ComesToSame, IsPrepared, IsCaughtUp, DeskState, DeskStands, StaysDue, held_back, ready, settled}
use Rattle.kr_shared.specs.Lines.{HasLineRoom, LineView}
use Rattle.kr_shared.specs.Standing.{StandsForSome}
use Rattle.kr_shared.specs.Works.{DeskView, KeepsShown, Onwards}
use Rattle.kr_shared.proofs.ClosedShelves.{list_closed}
use Rattle.kr_shared.proofs.Onwards.{keeps_onwards, keeps_refl, keeps_trans, staged_keeps, still_onwards}

-- ---- more is staged

abbrev comes_to : Shelf → List Entry → Core → List Asked → DeskView
comes_to shelf unstaged engine waiting = record { shelf = shown_at engine.closed shelf; unstaged = unstaged; engine = engine; waiting = waiting }

pub stays_same : (old new : DeskState) → StaysDue old new → settled new ≡ settled old
stays_same old new h = λ i. comes_to (h.ready i) (h.unstaged i) (h.engine i) (h.waiting i)

abbrev IsRight : Shelf → Core → Type 0
IsRight s e = AreRightAfter s.options s.list (next_at e.closed s)

pub stays_for : (old new : DeskState) → StaysDue old new → DeskStands old → DeskStands new
stays_for old new h k = record {
  stands = subst StandsForSome (sym (stays_same old new h)) k.stands;
  right = subst (λ (e : Core). IsRight (ready new) e) (sym h.engine) (subst (λ (s : Shelf). IsRight s old.engine) (sym h.ready) k.right);
  room = h.room k.room;
}

pub stays_itself : (k : DeskState) → StaysDue k k
stays_itself k = record { ready = refl; unstaged = refl; engine = refl; waiting = refl; shown = keeps_refl k.shelf; room = λ room. room }

pub stays_then : (j k l : DeskState) → StaysDue j k → StaysDue k l → StaysDue j l
stays_then j k l g h = record {
  ready = h.ready ∙ g.ready;
  unstaged = h.unstaged ∙ g.unstaged;
  engine = h.engine ∙ g.engine;
  waiting = h.waiting ∙ g.waiting;
  shown = keeps_trans j.shelf k.shelf l.shelf g.shown h.shown;
  room = λ room. h.room (g.room room);
}

pub fold_keeps : (s : Shelf) (es : List Entry) → KeepsShown s (fold with_staged s es)
fold_keeps s [] = keeps_refl s
fold_keeps s (e ∷ es) = keeps_trans s (with_staged s e) (fold with_staged (with_staged s e) es) (staged_keeps s e) (fold_keeps (with_staged s e) es)

pub ready_keeps : (k : DeskState) → KeepsShown k.shelf (ready k)
ready_keeps k =
    let mid = fold with_staged k.shelf (staged_below k.engine.closed (held_back k)) in
    keeps_trans k.shelf mid (ready k) (fold_keeps k.shelf (staged_below k.engine.closed (held_back k))) (fold_keeps mid k.line.due)

-- ---- below an end, and above it

first_above : (end : ℤ) (e : Entry) (es : List Entry) (b : Bool) → is_below end e ≡ b → staged_below end (staged_above end es) ≡ [] → staged_below end (cond b (staged_above end es) (e ∷ es)) ≡ []
first_above end e es true is rest = rest
first_above end e es false is rest = ap (λ c. cond c (e ∷ staged_below end es) []) is

pub none_below : (end : ℤ) (es : List Entry) → staged_below end (staged_above end es) ≡ []
none_below end [] = refl
none_below end (e ∷ es) = first_above end e es (is_below end e) refl (none_below end es)

first_left : (end : ℤ) (e : Entry) (es : List Entry) (b : Bool) → is_below end e ≡ b → staged_above end (staged_above end es) ≡ staged_above end es → staged_above end (cond b (staged_above end es) (e ∷ es)) ≡ cond b (staged_above end es) (e ∷ es)
first_left end e es true is rest = rest
first_left end e es false is rest = ap (λ c. cond c (staged_above end es) (e ∷ es)) is

pub same_above : (end : ℤ) (es : List Entry) → staged_above end (staged_above end es) ≡ staged_above end es
same_above end [] = refl
same_above end (e ∷ es) = first_left end e es (is_below end e) refl (same_above end es)

first_left_alone : (end : ℤ) (es : List Entry) → staged_below end es ≡ [] → staged_above end es ≡ es
first_left_alone end [] none = refl
first_left_alone end (e ∷ es) none =
    elim (is_below end e) as (λ b. cond b (e ∷ staged_below end es) [] ≡ [] → cond b (staged_above end es) (e ∷ es) ≡ e ∷ es) [
      | true ↦ λ none. absurd cc
      | false ↦ λ none. refl
    ] none

-- ---- all is staged

pub ready_is : (k : DeskState) → staged_below k.engine.closed (held_back k) ≡ [] → k.line.due ≡ [] → ready k ≡ k.shelf
ready_is k staged due =
    ap (λ (es : List Entry). fold with_staged (fold with_staged k.shelf es) k.line.due) staged ∙ ap (λ (es : List Entry). fold with_staged k.shelf es) due

-- with nothing behind it
added_alone : (k : DeskState) → k.fresh ≡ [] → held_back k ≡ k.unstaged
added_alone k fresh = ap (λ (es : List Entry). k.unstaged ++ es) fresh ∙ append-nil k.unstaged

pub prepared_below : (k : DeskState) → IsPrepared k → staged_below k.engine.closed (held_back k) ≡ []
prepared_below k h = ap (staged_below k.engine.closed) (added_alone k h.fresh) ∙ h.unstaged

prepared_above : (k : DeskState) → IsPrepared k → staged_above k.engine.closed (held_back k) ≡ k.unstaged
prepared_above k h = ap (staged_above k.engine.closed) (added_alone k h.fresh) ∙ first_left_alone k.engine.closed k.unstaged h.unstaged

pub caught_below : (k : DeskState) → IsCaughtUp k → staged_below k.engine.closed (held_back k) ≡ []
caught_below k h = ap (staged_below k.engine.closed) (added_alone k h.fresh ∙ h.unstaged) ∙ none_below k.engine.closed (held_back k)

pub caught_ready : (k : DeskState) → IsCaughtUp k → ready k ≡ k.shelf
caught_ready k h = ready_is k (caught_below k h) h.seated.due

pub prepared_is : (k : DeskState) → IsPrepared k → ready k ≡ k.shelf
prepared_is k h = ready_is k (prepared_below k h) h.seated.due

pub may_show : (k : DeskState) → IsPrepared k → DeskStands k → MayPublish k.engine.closed k.shelf
may_show k h s = record {
  right = subst (λ (x : Shelf). IsRight x k.engine) (prepared_is k h) s.right;
  closed = subst (λ (x : Shelf). IsClosedList (x.list ++ next_at k.engine.closed x)) (prepared_is k h) (list_closed (settled k) s.stands);
}

-- ---- a publish

-- what a publish left is shown by no later one
shown_again : (end : ℤ) (s : Shelf) → shown_at end (shown_at end s) ≡ shown_at end s
shown_again end s =
    let t = shown_at end s in
    ap (λ (es : List Entry). record { options = t.options; list = t.list ++ (es ++ []); waiting = []; items = staged_above end t.items; notes = [] }) (none_below end s.items)
    ∙ (ap (λ (l : List Entry). record { options = t.options; list = l; waiting = []; items = staged_above end t.items; notes = [] }) (append-nil t.list)
    ∙ ap (λ (es : List Entry). record { options = t.options; list = t.list; waiting = []; items = es; notes = [] }) (same_above end s.items))

module _ (old new : DeskState) (h : IsPrepared old) (is : new ≡ record old { shelf = shown_at old.engine.closed old.shelf }) where
  abbrev end : ℤ
  end = old.engine.closed

  abbrev shelf : Shelf
  shelf = shown_at end old.shelf

  abbrev after : DeskState
  after = record old { shelf = shelf }

  abbrev above : List Entry
  above = staged_above end (held_back old)

  ready_after : ready after ≡ shelf
  ready_after = ready_is after (prepared_below old h) h.seated.due

  pub shown_same : settled new ≡ settled old
  shown_same =
      ap settled is
      ∙ (ap (λ (s : Shelf). comes_to s above old.engine old.line.waiting) ready_after
      ∙ (ap (λ (s : Shelf). record { shelf = s; unstaged = above; engine = old.engine; waiting = old.line.waiting }) (shown_again end old.shelf)
      ∙ ap (λ (s : Shelf). comes_to s above old.engine old.line.waiting) (sym (prepared_is old h))))

  pub shown_settled : IsCaughtUp new
  shown_settled = subst IsCaughtUp (sym is) (record {
    rests = sym (ap (λ (s : Shelf). shown_at end s) ready_after ∙ shown_again end old.shelf);
    seated = h.seated;
    unstaged = sym (prepared_above old h);
    fresh = h.fresh;
  })

-- what is settled shows nothing more
pub settled_right : (k : DeskState) → IsCaughtUp k → AreRightAfter (ready k).options (ready k).list (next_at k.engine.closed (ready k))
settled_right k h =
    let s = ready k in
    let end = k.engine.closed in
    let here : s ≡ shown_at end s = caught_ready k h ∙ h.rests in
    let none : next_at end s ≡ [] =
    ap (λ (x : Shelf). next_at end x) here ∙ ap (λ (l : List Entry). l ++ []) (none_below end s.items) in
    subst (AreRightAfter s.options s.list) (sym none) tt

pub shown_for : (old new : DeskState) → IsPrepared old → DeskStands old → new ≡ record old { shelf = shown_at old.engine.closed old.shelf } → ComesToSame old new
shown_for old new h k is = record {
  same = shown_same old new h is;
  stands = record {
    stands = subst StandsForSome (sym (shown_same old new h is)) k.stands;
    right = settled_right new (shown_settled old new h is);
    room = subst (λ (x : DeskState). HasLineRoom x.line) (sym is) k.room;
  };
}

-- ---- one without memory

module _ (old new : DeskState) (h : IsPrepared old) (is : new ≡ record old { shelf = new.shelf }) (d : IsDelayed old.engine.closed old.shelf new.shelf) where
  abbrev at : ℤ
  at = old.engine.closed

  abbrev kept : List Entry
  kept = staged_above at (held_back old)

  ready_then : ready new ≡ new.shelf
  ready_then = ready_is new ((λ i. staged_below (is i).engine.closed (held_back (is i))) ∙ prepared_below old h) (ap (λ (k : DeskState). k.line.due) is ∙ h.seated.due)

  same_shown : shown_at at new.shelf ≡ shown_at at old.shelf
  same_shown = λ i. record { options = d.options i; list = d.list i ++ d.next i; waiting = []; items = d.left i; notes = [] }

  pub delayed_same : settled new ≡ settled old
  delayed_same =
      (λ i. comes_to (ready_then i) (staged_above (is i).engine.closed (held_back (is i))) (is i).engine (is i).line.waiting)
      ∙ (ap (λ (s : Shelf). record { shelf = s; unstaged = kept; engine = old.engine; waiting = old.line.waiting }) same_shown
      ∙ ap (λ (s : Shelf). comes_to s kept old.engine old.line.waiting) (sym (prepared_is old h)))

  pub delayed_for : DeskStands old → ComesToSame old new
  delayed_for k = record {
    same = delayed_same;
    stands = record {
      stands = subst StandsForSome (sym delayed_same) k.stands;
      right =
          subst (λ (e : Core). IsRight (ready new) e) (sym (ap (λ (x : DeskState). x.engine) is))
          (subst (λ (s : Shelf). IsRight s old.engine) (sym ready_then)
          (subst (λ (x : Options × List Entry × List Entry). AreRightAfter x.0 x.1 x.2) (λ i. (sym d.options i, sym d.list i, sym d.next i)) (may_show old h k).right));
      room = subst (λ (x : DeskState). HasLineRoom x.line) (sym is) k.room;
    };
  }

-- ---- what is due comes behind what is published

pub due_behind : (k : DeskState) → GoesOn (settled k).shelf.list k.shelf.list
due_behind k = (next_at k.engine.closed (ready k), ap (λ (l : List Entry). l ++ next_at k.engine.closed (ready k)) (ready_keeps k).list)

pub settled_list : (k : DeskState) → IsCaughtUp k → k.shelf.list ≡ (settled k).shelf.list
settled_list k h = ap (λ (s : Shelf). s.list) h.rests

pub shown_on : (old new : DeskState) → IsPrepared old → new ≡ record old { shelf = shown_at old.engine.closed old.shelf } → Onwards old.shelf new.shelf
shown_on old new h is = record {
  options = ap (λ (k : DeskState). k.shelf.options) is;
  list = (next_at old.engine.closed old.shelf, ap (λ (k : DeskState). k.shelf.list) is);
}

-- ---- the steps of publishing, one after the other

pub settles_less : (old new : DeskState) → DeskStands old → StaysDue old new → ComesToSame old new × Onwards old.shelf new.shelf
settles_less old new k h = (record { same = stays_same old new h; stands = stays_for old new h k }, still_onwards old.shelf new.shelf h.shown)

pub settles_late : (old mid new : DeskState) → DeskStands old → StaysDue old mid → IsPrepared mid → IsDelayed mid.engine.closed mid.shelf new.shelf × (new ≡ record mid { shelf = new.shelf }) → ComesToSame old new × Onwards old.shelf new.shelf
settles_late old mid new k h p d =
    let c = delayed_for mid new p d.1 d.0 (stays_for old mid h k) in (
      record { same = c.same ∙ stays_same old mid h; stands = c.stands },
      still_onwards old.shelf new.shelf (keeps_trans old.shelf mid.shelf new.shelf h.shown (record { options = d.0.options; list = d.0.list })),
    )

pub settles_whole : (old mid new : DeskState) → DeskStands old → StaysDue old mid → IsPrepared mid → new ≡ record mid { shelf = shown_at mid.engine.closed mid.shelf } → ComesToSame old new × IsCaughtUp new × Onwards old.shelf new.shelf
settles_whole old mid new k h p show =
    let c = shown_for mid new p (stays_for old mid h k) show in (
      record { same = c.same ∙ stays_same old mid h; stands = c.stands },
      shown_settled mid new p show,
      keeps_onwards old.shelf mid.shelf new.shelf h.shown (shown_on mid new p show),
    )

-- ---- the pieces of staging

pub stays_joined : (old new : DeskState) → new ≡ record old { unstaged = new.unstaged; fresh = new.fresh } → held_back new ≡ held_back old → StaysDue old new
stays_joined old new is same = record {
  ready = λ i. fold with_staged (fold with_staged (is i).shelf (staged_below (is i).engine.closed (same i))) (is i).line.due;
  unstaged = λ i. staged_above (is i).engine.closed (same i);
  engine = ap (λ (k : DeskState). k.engine) is;
  waiting = ap (λ (k : DeskState). k.line.waiting) is;
  shown = subst (λ (k : DeskState). KeepsShown old.shelf k.shelf) (sym is) (keeps_refl old.shelf);
  room = λ room. subst (λ (k : DeskState). HasLineRoom k.line) (sym is) room;
}

pub stays_staged : (old new : DeskState) → new ≡ record old { shelf = new.shelf; unstaged = new.unstaged } → old.fresh ≡ []
    → fold with_staged new.shelf (staged_below old.engine.closed new.unstaged) ≡ fold with_staged old.shelf (staged_below old.engine.closed old.unstaged)
    → staged_above old.engine.closed new.unstaged ≡ staged_above old.engine.closed old.unstaged → KeepsShown old.shelf new.shelf → StaysDue old new
stays_staged old new is fresh same left keeps =
    let end : ℤ = old.engine.closed in
    let new_fresh : new.fresh ≡ [] = ap (λ (k : DeskState). k.fresh) is ∙ fresh in
    let engine : new.engine ≡ old.engine = ap (λ (k : DeskState). k.engine) is in record {
      ready =
          (λ i. fold with_staged (fold with_staged new.shelf (staged_below (engine i).closed (added_alone new new_fresh i))) (is i).line.due)
          ∙ (ap (λ (h : Shelf). fold with_staged h old.line.due) same
          ∙ (λ i. fold with_staged (fold with_staged old.shelf (staged_below end (sym (added_alone old fresh) i))) old.line.due));
      unstaged =
          (λ i. staged_above (engine i).closed (added_alone new new_fresh i))
          ∙ (left ∙ ap (staged_above end) (sym (added_alone old fresh)));
      engine = engine;
      waiting = ap (λ (k : DeskState). k.line.waiting) is;
      shown = keeps;
      room = λ room. subst (λ (k : DeskState). HasLineRoom k.line) (sym is) room;
    }

-- both, one after the other
pub stays_entries : (old mid new : DeskState) → mid ≡ record old { unstaged = mid.unstaged; fresh = mid.fresh } → held_back mid ≡ held_back old → mid.fresh ≡ [] → new ≡ record mid { shelf = new.shelf; unstaged = new.unstaged }
    → fold with_staged new.shelf (staged_below mid.engine.closed new.unstaged) ≡ fold with_staged mid.shelf (staged_below mid.engine.closed mid.unstaged)
    → staged_above mid.engine.closed new.unstaged ≡ staged_above mid.engine.closed mid.unstaged → KeepsShown mid.shelf new.shelf → StaysDue old new
stays_entries old mid new joins all fresh is same left keeps = stays_then old mid new (stays_joined old mid joins all) (stays_staged mid new is fresh same left keeps)

pub stays_seated : (old new : DeskState) → new ≡ record old { line = new.line } → new.line ≡ record old.line { seated = new.line.seated } → StaysDue old new
stays_seated old new is seated = record {
  ready = (λ i. fold with_staged (fold with_staged (is i).shelf (staged_below (is i).engine.closed (held_back (is i)))) new.line.due) ∙ (λ i. fold with_staged (fold with_staged old.shelf (staged_below old.engine.closed (held_back old))) (seated i).due);
  unstaged = λ i. staged_above (is i).engine.closed (held_back (is i));
  engine = ap (λ (k : DeskState). k.engine) is;
  waiting = ap (λ (l : LineView). l.waiting) seated;
  shown = subst (λ (k : DeskState). KeepsShown old.shelf k.shelf) (sym is) (keeps_refl old.shelf);
  room = λ room. subst HasLineRoom (sym seated) room;
}

pub stays_noted : (old new : DeskState) → old.fresh ≡ [] → staged_below old.engine.closed old.unstaged ≡ [] → new ≡ record old { shelf = new.shelf; line = new.line } → fold with_staged new.shelf new.line.due ≡ fold with_staged old.shelf old.line.due → KeepsShown old.shelf new.shelf
    → new.line ≡ record old.line { due = new.line.due; dues = new.line.dues } → new.line.dues ≤ old.line.dues → StaysDue old new
stays_noted old new fresh none is same keeps line fewer =
    let none_old : staged_below old.engine.closed (held_back old) ≡ [] = ap (staged_below old.engine.closed) (added_alone old fresh) ∙ none in
    let none_new : staged_below new.engine.closed (held_back new) ≡ [] = (λ i. staged_below (is i).engine.closed (held_back (is i))) ∙ none_old in record {
      ready =
          (λ i. fold with_staged (fold with_staged new.shelf (none_new i)) new.line.due)
          ∙ (same ∙ (λ i. fold with_staged (fold with_staged old.shelf (sym none_old i)) old.line.due));
      unstaged = λ i. staged_above (is i).engine.closed (held_back (is i));
      engine = ap (λ (k : DeskState). k.engine) is;
      waiting = ap (λ (l : LineView). l.waiting) line;
      shown = keeps;
      room = λ room.
          let r : (old.line.dues + old.line.waits) ≤ old.line.room = room in
          let a = ap (λ (l : LineView). l.waits) line in
          let b = ap (λ (l : LineView). l.room) line in omega (arith, r, a, b, fewer);
    }

-- more room
pub roomy : (old new : DeskState) → DeskStands old → IsCaughtUp old → new ≡ record old { line = record old.line { room = new.line.room } } → old.line.room ≤ new.line.room → (settled new ≡ settled old) × DeskStands new × IsCaughtUp new
roomy old new k rests is more =
    let same : settled new ≡ settled old = ap settled is in (
      same,
      record {
        stands = subst StandsForSome (sym same) k.stands;
        right = subst (λ (x : DeskState). IsRight (ready x) x.engine) (sym is) k.right;
        room = (let r : (old.line.dues + old.line.waits) ≤ old.line.room = k.room in let a = ap (λ (x : DeskState). x.line.dues) is in let b = ap (λ (x : DeskState). x.line.waits) is in omega (arith, r, a, b, more));
      },
      subst IsCaughtUp (sym is) (record { rests = rests.rests; seated = record { due = rests.seated.due; seated = rests.seated.seated; dues = rests.seated.dues }; unstaged = rests.unstaged; fresh = rests.fresh }),
    )
