use Rattle.serde_json.specs.View.{view}
use Rattle.kr_request_json.specs.Inputs.{◌≔◌}
use Rattle.kr_request_json.proofs.Fields.{field_put}
use Rattle.kr_request_json.proofs.object.MemberPart.put.Goals as goal

pub returns : goal.returns
returns g c = field_put (g.N.FieldName.name ≔ g.T.Part.input) g.R.Part.input (view c.args.json.now) (view c.in_ok-value.value.now) c.put-2.result _ _ _ c.in_ok-value.ensures c.in_ok-put.ensures c.put-2.ensures
