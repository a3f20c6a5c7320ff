-- Bytes that are held before they are read.
use Rattle.std.proofs.Common.{◌≡◌, ◌∙◌, ℕ, ◌+◌, ◌≤◌, List, [], ◌++◌, Option, Some, None, length, take, drop, refl, sym, ap, subst, append_assoc, arith}
use Rattle.std.proofs.Math.Seq.{take-add}
use Rattle.std.proofs.lemmas.List.{append-nil, drop-drop, take-append-drop, take-append-le, take_all}
use Rattle.std.specs.Io.KnownBytes.{Consumes, Keeps, prepend_known}
use Rattle.kr_flow.specs.Moves.{Moves}

-- ---- bytes that stay

pub keeps_refl : (l : Option (List ℕ)) → Keeps l l
keeps_refl None = tt
keeps_refl (Some xs) = refl

pub keeps_trans : (a b c : Option (List ℕ)) → Keeps a b → Keeps b c → Keeps a c
keeps_trans None b c h k = tt
keeps_trans (Some xs) None c h k = absurd h
keeps_trans (Some xs) (Some ys) None h k = absurd k
keeps_trans (Some xs) (Some ys) (Some zs) h k = k ∙ h

pub none_taken : (l l' : Option (List ℕ)) → Keeps l l' → Consumes l l' []
none_taken None l' h = tt
none_taken (Some xs) None h = absurd h
none_taken (Some xs) (Some ys) h = sym h

-- ---- what is held

pub nothing_held : (l : Option (List ℕ)) → prepend_known [] l ≡ l
nothing_held None = refl
nothing_held (Some xs) = refl

-- what moved from the source to what is held is left as it was
pub moved : (l l' : Option (List ℕ)) (held held' : List ℕ) → Moves l l' held held' → Keeps (prepend_known held l) (prepend_known held' l')
moved None l' held held' m = tt
moved (Some xs) None held held' m = absurd m.took
moved (Some xs) (Some ys) held held' m =
    ap (λ h. h ++ ys) m.stand ∙ append_assoc held m.taken ys ∙ ap (λ t. held ++ t) (sym m.took)

-- some of what is held is read
pub taken_of_held : (l : Option (List ℕ)) (held taken rest : List ℕ) → held ≡ taken ++ rest → Consumes (prepend_known held l) (prepend_known rest l) taken
taken_of_held None held taken rest h = tt
taken_of_held (Some xs) held taken rest h = ap (λ h. h ++ xs) h ∙ append_assoc taken rest xs

-- what is held, with more behind it
pub grown : (len n : ℕ) (held more : List ℕ) → len ≡ length held → length held ≤ n → take len (take n held ++ more) ≡ held
grown len n held more same le =
    ap (λ h. take len (h ++ more)) (take_all n held le) ∙ (take-append-le len held more (omega (arith, same)) ∙ take_all len held (omega (arith, same)))

-- all of it is read
pub whole : (n : ℕ) (into rest : List ℕ) → length into ≡ n → take n (into ++ rest) ≡ into
whole n into rest same =
    take-append-le n into rest (omega (arith, same)) ∙ take_all n into (omega (arith, same))

-- a piece was read behind the first bytes of those that are held
pub read_behind_first : (l l' : Option (List ℕ)) (held into items : List ℕ) (len count : ℕ) → take len into ≡ take len held → Consumes l l' (take count (drop len into)) → items ≡ take (len + count) into
    → Moves l l' (take len held) items
read_behind_first l l' held into items len count same took stands = record {
  taken = take count (drop len into);
  took = took;
  stand = stands ∙ (take-add len count into ∙ ap (λ h. h ++ take count (drop len into)) same);
}

-- nothing was read
pub none_behind_first : (l l' : Option (List ℕ)) (held into items : List ℕ) (len : ℕ) → take len into ≡ take len held → Keeps l l' → items ≡ take len into → Moves l l' (take len held) items
none_behind_first l l' held into items len same kept stands = record {
  taken = [];
  took = none_taken l l' kept;
  stand = (stands ∙ same) ∙ sym (append-nil (take len held));
}

-- nothing moved
pub none_moved : (l : Option (List ℕ)) (held : List ℕ) → Moves l l held held
none_moved l held = record { taken = []; took = none_taken l l (keeps_refl l); stand = sym (append-nil held) }

-- a front of what is held is read
pub read_of_held : (l : Option (List ℕ)) (held into : List ℕ) (at count : ℕ) → take count into ≡ take count (drop at held)
    → Consumes (prepend_known (drop at held) l) (prepend_known (drop (at + count) held) l) (take count into)
read_of_held l held into at count same =
    subst (λ t. Consumes (prepend_known (drop at held) l) (prepend_known (drop (at + count) held) l) t) (sym same)
    (taken_of_held l (drop at held) (take count (drop at held)) (drop (at + count) held)
    (sym (take-append-drop count (drop at held)) ∙ ap (λ r. take count (drop at held) ++ r) (drop-drop count at held)))
