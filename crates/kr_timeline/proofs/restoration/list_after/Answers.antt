use Rattle.std.proofs.Common.{◌≡◌, ◌≤◌, ◌<◌, ◌∙◌, arith, length, refl}
use Rattle.std.proofs.lemmas.List.{take_all}
use Rattle.kr_timeline.proofs.Restores.{on_err, front_of, front_more, keys_more}
use Rattle.kr_timeline.proofs.restoration.list_after.Goals as goal

pub loop-place-init : goal.loop-place-init
loop-place-init g c = record { listed = refl; front = take_all (length c.args.keys.now.items) c.args.keys.now.items (omega arith); within = c.requires }

pub loop-place-preserved : goal.loop-place-preserved
loop-place-preserved g c =
    let lt : c.loop-place.place < length c.args.kept.now.items = omega (arith, c.loop-place-test.true, c.len.ensures, c.args.kept.now.ok) in
    let more = c.in_ok-list_keys.ensures.ok in
    record {
      listed = keys_more c.args.kept.now.items c.loop-place.place c.index.result.now c.loop-place.keys.items c.list_keys.new.keys.items lt c.index.ensures more ∙ c.loop-place.invariant.listed;
      front = rw more (front_more c.args.keys.now.items c.loop-place.keys.items c.index.result.now.keys.items c.loop-place.invariant.front);
      within = omega (arith, lt, c.args.kept.now.ok);
    }

pub returns-in_err-list_keys-clause-err : goal.returns-in_err-list_keys-clause-err
returns-in_err-list_keys-clause-err g c = on_err _ (front_of c.args.keys.now.items c.loop-place.keys.items c.list_keys.new.keys.items c.loop-place.invariant.front c.in_err-list_keys.ensures.err)
