-- A closure may go to another thread where all that it takes along may.
use mathlib.Core.List.{List, [], ◌∷◌}
use mir.Syntax.{Sym}
use denote.RattleType.{RattleType}
use denote.Param.Send.{IsSend}
use denote.Param.SendFields.{FieldsHave, as_row_send, declared_send}
use denote.Struct.Field.{row_field}
use denote.Struct.Tuple.{TupleAt, parts, type_at}

pub data AreSent : List RattleType → Type 1 where
  none : AreSent []
  and_more : {T : RattleType} {Ts : List RattleType} → IsSend T → AreSent Ts → AreSent (T ∷ Ts)

fields_send : (Ts : List RattleType) → AreSent Ts → FieldsHave IsSend (parts Ts)
fields_send [] none = tt
fields_send (T ∷ Ts) (and_more s all) = (as_row_send (row_field T) s, fields_send Ts all)

pub closure_send : {name : Sym} {Ts : List RattleType} → AreSent Ts → IsSend (TupleAt name Ts)
closure_send {name} {Ts} all = declared_send (type_at name Ts) (fields_send Ts all)
