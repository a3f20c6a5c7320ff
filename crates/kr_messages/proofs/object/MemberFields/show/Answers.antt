use Rattle.kr_messages.specs.Forms.{◌∶◌}
use Rattle.kr_messages.proofs.Showing.{field_taken}
use Rattle.kr_messages.proofs.object.MemberFields.show.Goals as goal

pub returns : goal.returns
returns g c = field_taken (g.N.FieldName.name ∶ g.T.Shape.form) g.R.Fields.fields _ _ _ _ _ _ _ _ _ c.in_ok-put_name.ensures c.in_ok-show.ensures c.show-2.ensures
