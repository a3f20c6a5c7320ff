-- Conditions that are tried in order: the first one that holds gives the cause (this project's own words).
use Rattle.std.specs.Prelude.{Bool, cond, Option, Some, None, Result, Ok, Err}

infix 5 refuse◌when◌else◌
abbrev pub refuse◌when◌else◌ : {X E : Type 0} → E → Bool → Result X E → Result X E
refuse cause when test else rest = cond test (Err cause) rest

-- what comes of the value that has to be there
abbrev pub found : {V X E : Type 0} → E → Option V → (V → Result X E) → Result X E
found cause None then = Err cause
found cause (Some value) then = then value

-- what comes of an answer, where there is one
abbrev pub and_then : {X Y E : Type 0} → Result X E → (X → Result Y E) → Result Y E
and_then (Ok value) then = then value
and_then (Err cause) then = Err cause
