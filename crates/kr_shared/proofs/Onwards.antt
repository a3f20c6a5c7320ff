-- Lists that go on.
use Rattle.std.proofs.Common.{◌≡◌, ◌∙◌, Bool, true, false, cond, List, [], ◌∷◌, ◌++◌, sym, ap, refl}
use Rattle.std.proofs.lemmas.List.{append_assoc, append-nil}
use Rattle.kr_calls.specs.declared.events.Entry.{Entry}
use Rattle.kr_view.specs.CopiesRule.{GoesOn}
use Rattle.kr_view.specs.declared.rule.ThreadView.{ThreadView}
use Rattle.kr_view.specs.Seats.{Onward}
use Rattle.kr_view.specs.Shelves.{Shelf, with_staged}
use Rattle.kr_view.specs.Staged.{is_logged}
use Rattle.kr_shared.specs.Works.{KeepsShown, Onwards}

pub goes_on : (x y z : List Entry) → GoesOn y x → GoesOn z y → GoesOn z x
goes_on x y z g h = (g.0 ++ h.0, h.1 ∙ (ap (λ l. l ++ h.0) g.1 ∙ append_assoc x g.0 h.0))

pub onward_refl : (v : ThreadView) → Onward v v
onward_refl v = record { list = ([], sym (append-nil v.list)); options = λ s. (s, refl) }

pub onward_trans : (u v w : ThreadView) → Onward u v → Onward v w → Onward u w
onward_trans u v w p q = record {
  list = goes_on u.list v.list w.list p.list q.list;
  options = λ s. let a = p.options s in let b = q.options a.0 in (b.0, b.1 ∙ a.1);
}

-- ---- of a publisher's list

pub keeps_refl : (s : Shelf) → KeepsShown s s
keeps_refl s = record { options = refl; list = refl }

pub keeps_trans : (s t u : Shelf) → KeepsShown s t → KeepsShown t u → KeepsShown s u
keeps_trans s t u h k = record { options = k.options ∙ h.options; list = k.list ∙ h.list }

pub still_onwards : (s t : Shelf) → KeepsShown s t → Onwards s t
still_onwards s t h = record { options = h.options; list = ([], h.list ∙ sym (append-nil s.list)) }

pub onwards_trans : (s t u : Shelf) → Onwards s t → Onwards t u → Onwards s u
onwards_trans s t u h k = record { options = k.options ∙ h.options; list = goes_on s.list t.list u.list h.list k.list }

pub keeps_onwards : (s t u : Shelf) → KeepsShown s t → Onwards t u → Onwards s u
keeps_onwards s t u h k = onwards_trans s t u (still_onwards s t h) k

staged_if : (b : Bool) (s : Shelf) (xs ys : List Entry) → KeepsShown s (cond b (record s { items = xs }) (record s { notes = ys }))
staged_if true s xs ys = record { options = refl; list = refl }
staged_if false s xs ys = record { options = refl; list = refl }

pub staged_keeps : (s : Shelf) (e : Entry) → KeepsShown s (with_staged s e)
staged_keeps s e = staged_if (is_logged e) s (s.items ++ e ∷ []) (s.notes ++ e ∷ [])
