-- A pin, an unpin, a stop, or an answer without a decision, is published at once, and the worker stands for the same state.
use Rattle.std.proofs.Common.{◌≡◌, ◌∙◌, sym, subst, ℕ, ℤ, pos, List, [], ◌∷◌, ◌++◌, fold, refl, ap}
use Rattle.std.specs.Prelude.{Option, Some, None, MatchOption}
use Rattle.kr_calls.specs.declared.answers.Answer.{Answer}
use Rattle.kr_calls.specs.declared.answers.Answered.{Answered}
use Rattle.kr_calls.specs.declared.events.Entry.{Entry}
use Rattle.kr_calls.specs.declared.events.Entry.TheVariants as entries
use Rattle.kr_calls.specs.RightAnswers.{AreRightAfter, IsRightAs, IsRightEntry, IsTo}
use Rattle.kr_calls.specs.SeatList.{Reached, end_of}
use Rattle.kr_defs.specs.declared.options.Options.{Options}
use Rattle.kr_view.specs.Shelves.{Shelf, next_at, shown_at, with_staged}
use Rattle.kr_view.specs.Staged.{staged_above, staged_below}
use Rattle.kr_model.specs.declared.writes.Write.{Write}
use Rattle.kr_model.specs.Engine.{Core}
use Rattle.kr_model.specs.World.{State, closed_of}
use Rattle.law_published_log.specs.Following.{AreNotes}
use Rattle.law_published_log.proofs.Shown.{shown_logs_go_on}
use Rattle.kr_shared.specs.Desks.{IsCaughtUp, DeskState, DeskStands, ready, settled}
use Rattle.kr_shared.specs.Lines.{HasLineRoom, LineView}
use Rattle.kr_shared.specs.Standing.{StandsForSome, Standing}
use Rattle.kr_shared.specs.Turns.{Notes}
use Rattle.kr_shared.specs.Works.{IsBareNote, DeskView, resting}
use Rattle.kr_shared.proofs.Settling.{caught_below}

noted_one : (list : List Entry) (s : Shelf) (e : Entry) → IsBareNote list e → with_staged s e ≡ record s { notes = s.notes ++ e ∷ [] }
noted_one list s (entries.Item place item) bare = absurd bare
noted_one list s (entries.Load offset records) bare = absurd bare
noted_one list s (entries.Pin pin) bare = refl
noted_one list s (entries.Unpin pin) bare = refl
noted_one list s (entries.Answer answer) bare = refl
noted_one list s (entries.Stop number) bare = refl

is_note : (list : List Entry) (e : Entry) → IsBareNote list e → AreNotes (e ∷ [])
is_note list (entries.Item place item) bare = absurd bare
is_note list (entries.Load offset records) bare = absurd bare
is_note list (entries.Pin pin) bare = tt
is_note list (entries.Unpin pin) bare = tt
is_note list (entries.Answer answer) bare = tt
is_note list (entries.Stop number) bare = tt

is_right : (o : Options) (list : List Entry) (e : Entry) → IsBareNote list e → IsRightEntry o list e
is_right o list (entries.Item place item) bare = tt
is_right o list (entries.Load offset records) bare = tt
is_right o list (entries.Pin pin) bare = bare
is_right o list (entries.Unpin pin) bare = tt
is_right o list (entries.Answer answer) bare = subst (λ (q : Option Answered). MatchOption q (Unit {0}) (λ a. IsTo a answer × IsRightAs answer.kind o list a)) (sym bare) tt
is_right o list (entries.Stop number) bare = tt

module _ (old : DeskView) (e : Entry) (bare : IsBareNote old.shelf.list e) (s : State) (writes : List Write) (k : Standing old s writes) where
  abbrev at : ℤ
  at = old.engine.closed

  abbrev still : Shelf
  still = resting old.shelf.options old.shelf.list

  abbrev put : Shelf → Shelf
  put h = record h { notes = h.notes ++ e ∷ [] }

  abbrev more : List Entry
  more = old.shelf.list ++ e ∷ []

  next_is : next_at at (put old.shelf) ≡ e ∷ []
  next_is = ap (λ (h : Shelf). next_at at (put h)) k.rests

  may_show : AreRightAfter old.shelf.options old.shelf.list (next_at at (put old.shelf))
  may_show = subst (λ (l : List Entry). AreRightAfter old.shelf.options old.shelf.list l) (sym next_is) (is_right old.shelf.options old.shelf.list e bare, tt)

  shown_is : shown_at at (put old.shelf) ≡ record old.shelf { list = more }
  shown_is = ap (λ (h : Shelf). shown_at at (put h)) k.rests ∙ sym (ap (λ (h : Shelf). record h { list = more }) k.rests)

  stands_still : Standing (record old { shelf = record old.shelf { list = more } }) s writes
  stands_still = record {
    engine = k.engine;
    none = k.none;
    options = k.options;
    rests = ap (λ (h : Shelf). record h { list = more }) k.rests;
    unstaged = k.unstaged;
    shows = shown_logs_go_on.notes s.world.log (closed_of s.world) old.shelf.list (e ∷ []) k.shows (is_note old.shelf.list e bare);
    waits = k.waits;
  }

-- ---- one note more is due

module _ (old new : DeskState) (rests : IsCaughtUp old) (sf : DeskStands old) (e : Entry) (l : LineView) (due : l.due ≡ old.line.due ++ e ∷ []) (waiting : l.waiting ≡ old.line.waiting) (is : new ≡ record old { line = l }) (bare : IsBareNote (settled old).shelf.list e) where
  abbrev shelf : Shelf
  shelf = (settled old).shelf

  all_staged : ready new ≡ record shelf { notes = shelf.notes ++ e ∷ [] }
  all_staged =
      (λ i. fold with_staged (fold with_staged (is i).shelf (staged_below (is i).engine.closed ((is i).unstaged ++ (is i).fresh))) (is i).line.due)
      ∙ ((λ i. fold with_staged (fold with_staged old.shelf (caught_below old rests i)) (due i))
      ∙ ((λ i. fold with_staged old.shelf (rests.seated.due i ++ e ∷ []))
      ∙ (ap (λ (h : Shelf). with_staged h e) rests.rests ∙ noted_one shelf.list shelf e bare)))

  abbrev noted : DeskView
  noted = record (settled old) { shelf = record shelf { list = shelf.list ++ e ∷ [] } }

  settled_is : settled new ≡ noted
  settled_is =
      (λ i. record { shelf = shown_at (is i).engine.closed (all_staged i); unstaged = staged_above (is i).engine.closed ((is i).unstaged ++ (is i).fresh); engine = (is i).engine; waiting = ((ap (λ (k : DeskState). k.line.waiting) is) ∙ waiting) i })
      ∙ ap (λ (h : Shelf). record (settled old) { shelf = h }) (shown_is (settled old) e bare sf.stands.state sf.stands.writes sf.stands.stands)

  pub notes_so : Notes (settled old) (settled new) e
  notes_so = record {
    is = settled_is;
    stands = λ s writes h. subst (λ (w : DeskView). Standing w s writes) (sym settled_is) (stands_still (settled old) e bare s writes h);
  }

  pub noted_for : HasLineRoom l → DeskStands new
  noted_for room = record {
    stands = record { state = sf.stands.state; writes = sf.stands.writes; stands = notes_so.stands sf.stands.state sf.stands.writes sf.stands.stands };
    right =
        subst (λ (x : Shelf × Core). AreRightAfter x.0.options x.0.list (next_at x.1.closed x.0)) (λ i. (sym all_staged i, sym (ap (λ (k : DeskState). k.engine) is) i))
        (may_show (settled old) e bare sf.stands.state sf.stands.writes sf.stands.stands);
    room = subst (λ (k : DeskState). HasLineRoom k.line) (sym is) room;
  }

-- the published list ends at the closed end
pub closed_is_end : (w : DeskView) → StandsForSome w → w.engine.closed ≡ end_of w.shelf.list
closed_is_end w k = k.stands.engine.closed ∙ sym (ap (λ (r : Reached). r.end) k.stands.shows.whole)
