-- The digits so far spell the number, which the other digits only make greater.
use Rattle.std.proofs.Common.{◌≡◌, ◌≤◌, drop}
use Rattle.kr_defs.specs.Texts.{number_behind}
use Rattle.kr_flags.proofs.numbers.long_up_to.Given as goal

abbrev pub invariant-loop-byte : goal.invariant-loop-byte
invariant-loop-byte l = record {
  spelled : number_behind l.number (drop l.byte-index l.text) ≡ number_behind 0 l.text;
  within : l.number ≤ l.greatest;
}
