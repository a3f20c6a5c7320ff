use Rattle.std.proofs.Common.{ap, w64, ◌∙◌, refl, sym, subst}
use Rattle.std.proofs.lemmas.Int.{to_z-of_z}
use Rattle.kr_defs.specs.KeptMaps.{marked, IsAbove}
use Rattle.kr_timeline.proofs.Histories.{marked_is, timeline_marked}
use Rattle.kr_timeline.proofs.timeline.Timeline.mark.Goals as goal

pub invariant_of-self : goal.invariant_of-self
invariant_of-self g c = timeline_marked g.K.Ord.cmp c.self.inside.chains.entries c.self.inside.kept.items _ (record { epoch = c.args.epoch; number = c.self.inside.number; keys = c.replace-keys.result; made = c.self.inside.made }) c.self.inside.number c.self.inside.keys.items _ c.self.inside.made
    (rw (to_z-of_z w64 c.args.epoch c.ranges.epoch) at c.in-Ok.ensures.items) refl (ap (λ v. v.items) c.replace-keys.ensures.value) refl (ap (λ v. v.items) c.replace-keys.ensures.after ∙ c.new.ensures.items) (subst (λ ks. IsAbove ks c.args.epoch) (sym (ap (λ h. h.maps.kept) c.self.view_is)) c.requires) c.self.invariant

pub returns-in-Ok-clause-ok : goal.returns-in-Ok-clause-ok
returns-in-Ok-clause-ok g c = marked_is c.self.inside.chains.entries c.self.inside.kept.items _ (record { epoch = c.args.epoch; number = c.self.inside.number; keys = c.replace-keys.result; made = c.self.inside.made }) c.self.inside.number c.self.inside.made
    (rw (to_z-of_z w64 c.args.epoch c.ranges.epoch) at c.in-Ok.ensures.items) refl refl c.self.invariant.below ∙ ap (λ h. marked h.maps c.args.epoch) c.self.view_is
