use Rattle.std.proofs.Common.{◌∙◌, List, Some, sym, ap}
use Rattle.serde_json.specs.View.{items_view, view}
use Rattle.serde_json.specs.declared.value.Value.{Value}
use Rattle.kr_request_json.proofs.Lists.{list_put}
use Rattle.kr_request_json.proofs.list.ArrayPart.put.Goals as goal

pub returns : goal.returns
returns g c =
    let found = sym c.in-Some.ensures ∙ ap (λ (l : List Value). Some (items_view l)) (sym c.as_slice-items.ensures.value) in
    list_put g.T.Part.input c.as_slice-items.result.now (view c.args.json.now) c.put_items.result _ _ _ found c.in_ok-put_count.ensures.ok c.put_items.ensures
