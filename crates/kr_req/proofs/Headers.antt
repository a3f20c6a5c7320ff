-- The laws of headers: what is read stands for its value, and what stands for a value is read as it, whatever follows.
use Rattle.std.proofs.Common.{◌≡◌, ℕ, false, List, ◌++◌, length, inl, inr, Ok, refl, sym, ap, subst, ◌∙◌, arith}
use Rattle.std.specs.Prelude.{ℤ, pos, negsuc, int_lt, unsigned_abs}
use Rattle.std.specs.Int.{w16, w32}
use Rattle.std.specs.Ordering.{int_eq}
use Rattle.std.proofs.lemmas.List.{append-nil}
use Rattle.std.proofs.lemmas.Bool.{le-ltb}
use Rattle.std.proofs.lemmas.Bool.Decides.{Decides-int_eq}
use Rattle.kr_wire.specs.declared.WireFault.TheVariants.{BadNull}
use Rattle.kr_wire.specs.Grammar.{◌⌢◌, Exactly, IsSigned, NoTags}
use Rattle.kr_wire.proofs.ReadingLaws.{IsBytes, Yields, Law, joined, sound_then, sound_last, sound_guard, sound_if, sound_as, sound_done, complete_then, complete_last, complete_guard, complete_bind, complete_if_not}
use Rattle.kr_wire.proofs.Numbers.{signed_law, utf8_law, IsUtf8Piece}
use Rattle.kr_wire.proofs.Tags.{no_tags_law}
use Rattle.kr_req.specs.Messages.{IsSizedText, IsClientId, IsClient, IsStart}
use Rattle.kr_req.specs.Reading.{sized_text_at, client_id_at, client_at, head_at}

-- ---- client ids

sized_text : (size : ℤ) (text a b : List ℕ) → int_lt size (pos 0) ≡ false → IsSigned w16 size a → IsUtf8Piece (unsigned_abs size) text b → IsSizedText (a ++ b)
sized_text (pos n) text a b natural first is =
    let e : n ≡ length text = sym is.1.0 ∙ ap length is.1.1 in
    record { text = text; utf8 = is.0; spelled = joined a b (subst (λ (k : ℕ). IsSigned w16 (pos k) a) e first) is.1.1 }
sized_text (negsuc n) text a b natural first is = absurd cc

sized_text_sound : (size : ℤ) (a : List ℕ) → IsSigned w16 size a → (bytes : List ℕ) → IsBytes bytes → Yields (λ (u : Unit {0}) tail. IsSizedText (a ++ tail)) bytes (sized_text_at size bytes)
sized_text_sound size a first bytes fits = sound_guard _ bytes (int_lt size (pos 0)) BadNull _ (λ natural.
    sound_last (utf8_law (unsigned_abs size)) _ (λ t. tt) bytes fits (λ text b is. sized_text size text a b natural first is))

client_id_complete : (front rest : List ℕ) → IsClientId front → client_id_at (front ++ rest) ≡ Ok (tt, rest)
unfolding client_id_at
client_id_complete front rest (inl null) = rw ((signed_law w16).complete (negsuc 0) front rest null) refl
client_id_complete front rest (inr t) =
    complete_then (signed_law w16) (pos (length t.text)) (Exactly t.text) _ tt rest (λ tail second.
    complete_if_not _ (Ok (tt {0}, tail ++ rest)) _ _ refl (complete_guard _ _ _ _ (le-ltb _ _ (omega arith))
    (complete_bind _ _ (t.text, rest) _ ((utf8_law (length t.text)).complete t.text tail rest (t.utf8, (ap length second, second))) refl))) front t.spelled

client_id_law : Law (λ (u : Unit {0}). IsClientId) client_id_at
unfolding client_id_at
client_id_law = record {
  sound = λ bytes fits. sound_then (signed_law w16) (λ (u : Unit {0}). IsClientId) _ bytes fits (λ size a rest first more.
      sound_if _ rest (int_eq size (negsuc 0)) _ _
      (λ null. sound_done _ rest (tt {0}) (rw append-nil (inl (subst (λ (z : ℤ). IsSigned w16 z a) ((Decides-int_eq size (negsuc 0)).0 null) first))))
      (λ other. sound_as (λ (u : Unit {0}) tail. IsSizedText (a ++ tail)) _ rest _ (sized_text_sound size a first rest more) (λ u b is. inr is)));
  complete = λ u front rest is. client_id_complete front rest is;
}

-- ---- the two parts of a header

pub start_law : Law (λ s. IsStart s.0 s.1 s.2) head_at
unfolding head_at
start_law = record {
  sound = λ bytes fits. sound_then (signed_law w16) (λ (s : ℤ × ℤ × ℤ). IsStart s.0 s.1 s.2) _ bytes fits (λ key a rest first more.
      sound_then (signed_law w16) _ _ rest more (λ version b rest second more.
      sound_last (signed_law w32) _ (λ correlation. (key, version, correlation)) rest more (λ correlation c third.
      joined a (b ++ c) first (joined b c second third))));
  complete = λ s bytes rest is.
      complete_then (signed_law w16) s.0 (IsSigned w16 s.1 ⌢ IsSigned w32 s.2) _ _ rest
      (complete_then (signed_law w16) s.1 (IsSigned w32 s.2) _ _ rest
      (complete_last (signed_law w32) s.2 (λ correlation. (s.0, s.1, correlation)) rest)) bytes is;
}

pub client_law : Law (λ (u : Unit {0}). IsClient) client_at
unfolding client_at
client_law = record {
  sound = λ bytes fits. sound_then client_id_law (λ (u : Unit {0}). IsClient) _ bytes fits (λ u a rest first more.
      sound_last no_tags_law _ (λ u. tt) rest more (λ u b second. joined a b first second));
  complete = λ u bytes rest is.
      complete_then client_id_law tt NoTags _ _ rest (complete_last no_tags_law tt (λ u. tt) rest) bytes is;
}
