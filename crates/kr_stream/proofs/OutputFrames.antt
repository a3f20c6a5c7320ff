-- What is written for an output, and that it stands for it.
use Rattle.std.proofs.Common.{◌≡◌, ℕ, ◌+◌, List, [], ◌∷◌, ◌++◌, length, length-append, take, drop, refl, sym, ap, ◌∙◌, arith}
use Rattle.std.proofs.Math.Seq.{drop-append_seam}
use Rattle.std.proofs.Math.ListN.{drop_of_length-le}
use Rattle.std.proofs.lemmas.List.{take_all, append-nil}
use Rattle.std.specs.Int.{w32, w64}
use Rattle.std.proofs.lemmas.List.Elements.{All-head, All-tail}
use Rattle.kr_wire.specs.Spelling.{number, signed}
use Rattle.kr_wire.proofs.Lengths.{length_number_32}
use Rattle.kr_wire.proofs.ReadingLaws.{joined}
use Rattle.kr_wire.proofs.WrittenForms.{number_spelled, signed_spelled}
use Rattle.kr_calls.specs.declared.events.Reason.{Reason}
use Rattle.kr_calls.specs.declared.events.Output.{Output}
use Rattle.kr_calls.specs.declared.events.Output.TheVariants as outputs
use Rattle.kr_req.specs.WrittenReplies.{reply_bytes}
use Rattle.kr_req.proofs.Replies.{reply_stands}
use Rattle.kr_stream.specs.Laws.{WrittenOutputsStand}
use Rattle.kr_stream.specs.RefusalNumbers.{first_number, reason_number, second_number, third_number}
use Rattle.kr_stream.specs.Outputs.{number_of, BodyFits, FrameFits, IsOutput, IsOutputBody, IsReason, ReasonFits, body_bytes, frame_bytes, frames_bytes, reason_bytes, sized_bytes}

pub unsized_length : (kind : ℕ) (body items : List ℕ) → items ≡ number w32 0 ++ kind ∷ body → length items ≡ length body + 5
unsized_length kind body items is = omega (arith, ap (λ (l : List ℕ). length l) is, length-append (number w32 0) (kind ∷ body), length_number_32 0)

-- the size set before the number of the kind and the body
pub sized_is : (kind size len : ℕ) (body items set : List ℕ) → items ≡ number w32 0 ++ kind ∷ body → size ≡ length body + 1 → set ≡ number w32 size ++ drop 4 items → len ≡ length items
    → take len (set ++ drop (length set) items) ≡ sized_bytes kind body
sized_is kind size len body items set stands sized is long =
    let rest : drop 4 items ≡ kind ∷ body = rw stands (ap (λ (n : ℕ). drop n (number w32 0 ++ kind ∷ body)) (sym (length_number_32 0)) ∙ drop-append_seam (number w32 0) (kind ∷ body)) in
    let whole : set ≡ number w32 size ++ (kind ∷ body) = is ∙ ap (λ (l : List ℕ). number w32 size ++ l) rest in
    let same : length set ≡ length items = omega (arith, ap (λ (l : List ℕ). length l) whole, length-append (number w32 size) (kind ∷ body), length_number_32 size, unsized_length kind body items stands) in
    let none : drop (length set) items ≡ [] = drop_of_length-le items (omega (arith, same)) in
    rw none (ap (take len) (append-nil set) ∙ take_all len set (omega (arith, long, same)) ∙ rw sized at whole)

-- ---- it stands for the output

reason_stands : (reason : Reason) → ReasonFits reason → IsReason reason (reason_bytes reason)
reason_stands reason fits =
    joined (reason_number reason ∷ []) _ (record { long = refl; spelled = let byte = fits.0 in omega arith })
    (joined (signed w64 (first_number reason)) _ (signed_spelled w64 (first_number reason) (omega arith) fits.1)
    (joined (signed w64 (second_number reason)) _ (signed_spelled w64 (second_number reason) (omega arith) fits.2) (signed_spelled w64 (third_number reason) (omega arith) fits.3)))

body_stands : (output : Output) → BodyFits output → IsOutputBody output (body_bytes output)
body_stands (outputs.Append bytes) fits = refl
body_stands (outputs.Reply client correlation reply) fits =
    joined (number w32 client) (reply_bytes correlation reply) (number_spelled w32 client (omega arith) fits.0) (reply_stands correlation reply fits.1)
body_stands (outputs.Refused event reason) fits = joined (number w64 event) (reason_bytes reason) (number_spelled w64 event (omega arith) fits.0) (reason_stands reason fits.1)
body_stands (outputs.Image bytes) fits = refl

frame_stands : (output : Output) → FrameFits output → IsOutput output (frame_bytes output)
frame_stands output fits = record {
  body = body_bytes output;
  holds = body_stands output fits.body;
  spelled = joined (number w32 (length (body_bytes output) + 1)) (number_of output ∷ body_bytes output) (number_spelled w32 (length (body_bytes output) + 1) (omega arith) fits.size) refl;
}

pub frames_stand : WrittenOutputsStand
frames_stand [] fit = refl
frames_stand (output ∷ outputs) fit =
    joined (frame_bytes output) (frames_bytes outputs) (frame_stands output (All-head FrameFits output outputs fit)) (frames_stand outputs (All-tail FrameFits output outputs fit))
