use Rattle.std.proofs.Common.{◌-◌, List, ℕ, ◌++◌, drop, length, sym, ap, ◌∙◌, arith}
use Rattle.std.specs.Int.{w32}
use Rattle.kr_wire.specs.Spelling.{number}
use Rattle.kr_stream.proofs.OutputFrames.{sized_is, unsized_length}
use Rattle.kr_stream.specs.Outputs.{body_bytes, number_of}
use Rattle.kr_stream.proofs.output.frame.Goals as goal

pub overflow_sub-size : goal.overflow_sub-size
overflow_sub-size c = omega (arith, c.len.ensures, unsized_length (number_of c.args.output.now) (body_bytes c.args.output.now) _ c.in_ok-bytes.ensures.bytes)

pub set_size-requires : goal.set_size-requires
set_size-requires c =
    omega (arith, unsized_length (number_of c.args.output.now) (body_bytes c.args.output.now) _ c.in_ok-bytes.ensures.bytes, ap (λ (l : List ℕ). length l) c.as_mut_slice.ensures.value)

pub returns-clause-bytes : goal.returns-clause-bytes
returns-clause-bytes c =
    let kind = number_of c.args.output.now in
    let body = body_bytes c.args.output.now in
    sized_is kind _ _ body _ c.set_size.new.bytes c.in_ok-bytes.ensures.bytes (omega (arith, c.len.ensures, unsized_length kind body _ c.in_ok-bytes.ensures.bytes))
    (c.set_size.ensures.bytes ∙ ap (λ (l : List ℕ). number w32 (c.len.result - 4) ++ drop 4 l) c.as_mut_slice.ensures.value) (sym c.as_mut_slice.ensures.len ∙ ap (λ (l : List ℕ). length l) c.as_mut_slice.ensures.value)

pub returns-clause-fits : goal.returns-clause-fits
returns-clause-fits c =
    record { body = c.in_ok-bytes.ensures.fits; size = omega (arith, c.if-size-from.false, c.len.ensures, unsized_length (number_of c.args.output.now) (body_bytes c.args.output.now) _ c.in_ok-bytes.ensures.bytes) }
