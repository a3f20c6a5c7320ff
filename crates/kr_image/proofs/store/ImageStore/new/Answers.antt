use Rattle.kr_image.proofs.BegunEpochs.{none_listed}
use Rattle.kr_image.proofs.Stores.{new_store}
use Rattle.kr_image.proofs.store.ImageStore.new.Goals as goal

pub invariant_of-result : goal.invariant_of-result
invariant_of-result c = record {
  store = new_store c.new.result c.new-2.result.items c.new.ensures.tip c.new.ensures.kept c.new.ensures.agrees c.new-2.ensures.items c.empty_is_valid.ensures;
  opens = none_listed c.new-2.result.items c.new-2.ensures.items;
}
