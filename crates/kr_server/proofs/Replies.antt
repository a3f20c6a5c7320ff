-- Replies that are written one behind the other.
use Rattle.std.proofs.Common.{◌∙◌, ℕ, List, [], ◌∷◌, ◌++◌, take, Option, refl, sym, ap, subst, append-nil}
use Rattle.std.specs.Prelude.{All}
use Rattle.std.specs.Io.KnownBytes.{Appends}
use Rattle.std.proofs.KnownBytes.{Appends-trans, Appends-nil}
use Rattle.std.proofs.lemmas.List.Elements.{All-append, All-cons, All-nil}
use Rattle.std.proofs.lemmas.Grind.{flat_map-append}
use Rattle.kr_base.specs.FailedPuts.{AppendsFront}
use Rattle.kr_server.specs.declared.exchange.Exchange.{Exchange}
use Rattle.kr_server.specs.Exchanges.{SizedReplyFits, sized_replies, sized_reply}
use Rattle.kr_server.specs.Served.{WroteAllButLast, WroteReplies}

pub wrote_none : (written : Option (List ℕ)) → WroteReplies written written []
wrote_none written = record { fit = All-nil SizedReplyFits; bytes = Appends-nil written }

fits_more : (xs : List Exchange) (x : Exchange) → All SizedReplyFits xs → SizedReplyFits x → All SizedReplyFits (xs ++ x ∷ [])
fits_more xs x fit fits = All-append SizedReplyFits xs (x ∷ []) fit (All-cons SizedReplyFits x [] fits (All-nil SizedReplyFits))

module _ (a b c : Option (List ℕ)) (xs : List Exchange) (first : WroteReplies a b xs) where
  pub wrote_more : (x : Exchange) → SizedReplyFits x → Appends b c (sized_reply x) → WroteReplies a c (xs ++ x ∷ [])
  wrote_more x fits wrote = record {
    fit = fits_more xs x first.fit fits;
    bytes = subst (Appends a c) (ap (λ (l : List ℕ). sized_replies xs ++ l) (sym (append-nil (sized_reply x))) ∙ sym (flat_map-append sized_reply xs (x ∷ []))) (Appends-trans a b c (sized_replies xs) (sized_reply x) first.bytes wrote);
  }

  pub wrote_in_part : (x : Exchange) → SizedReplyFits x → AppendsFront b c (sized_reply x) → WroteAllButLast a c (xs ++ x ∷ [])
  wrote_in_part x fits wrote = record {
    before = xs;
    last = x;
    parts = refl;
    fit = fits_more xs x first.fit fits;
    count = wrote.0;
    bytes = Appends-trans a b c (sized_replies xs) (take wrote.0 (sized_reply x)) first.bytes wrote.1;
  }

  pub wrote_same : Appends b c [] → WroteReplies a c xs
  wrote_same none = record { fit = first.fit; bytes = subst (Appends a c) (append-nil (sized_replies xs)) (Appends-trans a b c (sized_replies xs) [] first.bytes none) }
