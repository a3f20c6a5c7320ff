-- What is opened stands for the state before all events.
use Rattle.std.proofs.Common.{◌≡◌, ◌∙◌, sym, subst, ℕ, zero, suc, pos, ◌≤◌, List, [], ◌++◌, refl, ap, arith}
use Rattle.std.specs.Prelude.{drop, take}
use Rattle.std.proofs.lemmas.List.{drop_all}
use Rattle.std.proofs.lemmas.List.Elements.{All-nil}
use Rattle.kr_calls.specs.declared.events.Entry.{Entry}
use Rattle.kr_calls.specs.SeatList.{image_below, item_entries}
use Rattle.kr_defs.specs.declared.options.Options.{Options}
use Rattle.kr_defs.specs.declared.record.Item.{Item}
use Rattle.kr_defs.specs.Log.{Log, first, image_at, open_at, state_at}
use Rattle.kr_view.specs.Shelves.{Shelf}
use Rattle.kr_model.specs.Engine.{Core, IsEngine, outputs_left}
use Rattle.kr_model.specs.World.{seen_at, start}
use Rattle.law_published_log.specs.Following.{Shows}
use Rattle.kr_view.specs.Shelves.{shown_at}
use Rattle.kr_view.specs.Staged.{staged_above, staged_below}
use Rattle.kr_shared.specs.Desks.{IsNewDesk, IsCaughtUp, DeskState, DeskStands, held_back, ready, settled}
use Rattle.kr_shared.specs.Standing.{Standing}
use Rattle.kr_shared.specs.Works.{DeskView, resting}
use Rattle.kr_shared.proofs.Settling.{ready_is, settled_right}

abbrev none : List Entry
none = []

same_below : (place : ℕ) → place ≤ 0 → image_below (pos place) none ≡ seen_at first place
unfolding image_at state_at
same_below zero low = refl
same_below (suc n) low = absurd (omega (arith, low))

shows_none : Shows first 0 none
unfolding image_at state_at
shows_none = record {
  whole = refl;
  low = All-nil _;
  images = λ place from low. same_below place low;
  items = tt;
}

module _ (options : Options) (k : DeskState) (shelf : Shelf) (e : Core) (o : IsNewDesk shelf e k) (shelf_is : shelf ≡ resting options []) (engine : IsEngine e start []) (none_left : outputs_left e ≡ []) (same : e.options ≡ options) where
  abbrev at : DeskView
  at = record { shelf = resting options []; unstaged = []; engine = e; waiting = [] }

  pub kept_shelf : k.shelf ≡ resting options []
  kept_shelf = o.shelf_is ∙ shelf_is

  none_added : held_back k ≡ []
  none_added = λ i. o.unstaged i ++ o.fresh i

  all_ready : ready k ≡ resting options []
  all_ready = ready_is k (ap (staged_below k.engine.closed) none_added) o.line.due ∙ kept_shelf

  pub settled_is : settled k ≡ at
  settled_is = λ i. record { shelf = shown_at (o.engine i).closed (all_ready i); unstaged = staged_above (o.engine i).closed (none_added i); engine = o.engine i; waiting = o.line.waiting i }

  pub opened_rests : IsCaughtUp k
  opened_rests = record {
    rests = kept_shelf ∙ sym (ap (λ (d : DeskView). d.shelf) settled_is);
    seated = record { due = o.line.due; seated = o.line.seated; dues = o.line.dues };
    unstaged = o.unstaged ∙ sym (ap (λ (d : DeskView). d.unstaged) settled_is);
    fresh = o.fresh;
  }

  pub opened_stands : Standing (settled k) start []
  unfolding open_at
  opened_stands = subst (λ (d : DeskView). Standing d start []) (sym settled_is) (record {
    engine = engine;
    none = none_left;
    options = same;
    rests = refl;
    unstaged = refl;
    shows = shows_none;
    waits = tt;
  })

  pub opened_for : DeskStands k
  opened_for = record {
    stands = record { state = start; writes = []; stands = opened_stands };
    right = settled_right k opened_rests;
    room = (let a = o.line.dues in let b = o.line.waits in omega (arith, a, b));
  }
