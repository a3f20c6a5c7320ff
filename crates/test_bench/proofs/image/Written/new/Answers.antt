use Rattle.std.proofs.Common.{◌≡◌, rules, List, ℕ, Ok, sym, subst}
use Rattle.kr_snapshot.specs.Reading.{image_of}
use Rattle.kr_snapshot.specs.ImageText.{image_text}
use Rattle.test_bench.specs.declared.image.TheConstants.{OFFSET}
use Rattle.test_bench.proofs.image.Written.new.Goals as goal

pub invariant_of-result : goal.invariant_of-result
invariant_of-result c =
    let tip = c.in_ok-store.store.tip in
    let written : c.write.new.out.items ≡ image_text OFFSET tip = search (rules, c.in_ok-write.ensures.ok, c.new-bytes.ensures.items) in
    record {
      text = written;
      stands = subst (λ (bytes : List ℕ). image_of bytes ≡ Ok (OFFSET, tip)) (sym written) (c.images.ensures.read OFFSET tip (image_text OFFSET tip) c.in_ok-write.ensures.stands);
    }
