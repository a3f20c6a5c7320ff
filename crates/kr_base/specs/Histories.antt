-- The values of a history. This project's own.
use Rattle.std.specs.Prelude.{List, [], ◌∷◌, ◌++◌}
use Rattle.kr_base.specs.declared.history.Past.{Past, Nothing, More'}

abbrev pub values : {A : Type 0} → Past A → List A
values Nothing = []
values (More' outer inner before value) = values before ++ value.value ∷ []
