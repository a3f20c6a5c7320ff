use Rattle.std.proofs.Common.{subst, sym, ℕ, ℤ}
use Rattle.kr_defs.specs.declared.partition.Partition.{Partition}
use Rattle.kr_timeline.specs.History.{History}
use Rattle.kr_image.specs.inner.PartitionKeys.{HaveSameEpochs}
use Rattle.kr_image.proofs.partition_timeline.PartitionTimeline.renew.Goals as goal

pub index_of_maps-requires : goal.index_of_maps-requires
index_of_maps-requires c = subst (λ (h : History (ℕ × ℤ) Partition). HaveSameEpochs h.maps.kept c.args.kept.now.items) (sym c.self.view_is) c.requires
