-- Lines as entries, put together: they are the entries of a page.
use Rattle.std.proofs.Common.{◌≡◌, ◌∙◌, ℕ, zero, suc, ◌+◌, ℤ, Bool, true, false, cond, List, [], ◌∷◌, ◌++◌, filter, fold, map, take, refl, sym, ap, append_assoc, arith}
use Rattle.std.specs.Prelude.{Option, Some, None, flat_map, slice_get}
use Rattle.std.specs.List.{AllByRecursion}
use Rattle.std.specs.Option.{option_map, option_map_or}
use Rattle.kr_defs.specs.declared.partition.Partition.{Partition}
use Rattle.kr_defs.specs.Image.{Image}
use Rattle.kr_defs.specs.Map.{get, text_order}
use Rattle.kr_defs.specs.Walk.{of_topic, walked}
use Rattle.kr_pages.specs.declared.describe.LineKey.{LineKey}
use Rattle.kr_pages.specs.declared.describe.Describe.{Describe}
use Rattle.kr_pages.specs.declared.describe.Described.{Described}
use Rattle.kr_pages.specs.declared.describe.DescribedPart.{DescribedPart}
use Rattle.kr_pages.specs.declared.describe.DescribedTopic.{DescribedTopic}
use Rattle.kr_pages.specs.Lines.{Line, bare_line, line_of_partition, lines, lines_of_topic, lines_or_bare, name_lines, names_of}
use Rattle.kr_pages.specs.Pages.{entry_of_topic, is_from, lines_from, limit_of, page, topic_entries, with_line}
use Rattle.kr_describe.specs.inner.ShownLines.{described_of, line_entries, is_of_topic, key_of_entry, with_line_entry}

module _ (image : Image) where
  -- ---- entries

  same_line : (topics : List DescribedTopic) (l : Line) → with_line image topics l ≡ with_line_entry topics (entry_of_topic image l)
  same_line [] l = refl
  same_line (last ∷ []) l = refl
  same_line (first ∷ second ∷ rest) l = ap (λ (ts : List DescribedTopic). first ∷ ts) (same_line (second ∷ rest) l)

  same_fold : (topics : List DescribedTopic) (ls : List Line) → fold (with_line image) topics ls ≡ fold with_line_entry topics (line_entries image ls)
  same_fold topics [] = refl
  same_fold topics (l ∷ ls) = ap (λ (ts : List DescribedTopic). fold (with_line image) ts ls) (same_line topics l) ∙ same_fold (with_line_entry topics (entry_of_topic image l)) ls

  -- ---- keys

  abbrev IsKeyed : Line → Type 0
  IsKeyed l = key_of_entry (entry_of_topic image l) ≡ l.key

  abbrev AreKeyed : List Line → Type 0
  AreKeyed ls = AllByRecursion IsKeyed ls

  rows_keyed : (name : List ℕ) (es : List ((ℕ × ℤ) × Partition)) → AreKeyed (map line_of_partition (map (walked name) es))
  rows_keyed name [] = tt
  rows_keyed name (e ∷ es) = (refl, rows_keyed name es)

  bare_keyed : (name : List ℕ) (id : Option ℕ) → IsKeyed (bare_line name id)
  bare_keyed name id = refl

  or_bare_keyed : (name : List ℕ) (id : ℕ) (ls : List Line) → AreKeyed ls → AreKeyed (lines_or_bare name id ls)
  or_bare_keyed name id [] are = (bare_keyed name (Some id), tt)
  or_bare_keyed name id (l ∷ ls) are = are

  name_keyed : (name : List ℕ) → AreKeyed (name_lines image name)
  name_keyed name = elim (get text_order image.topics name) as (λ o. AreKeyed (option_map_or (lines_of_topic image name) o (bare_line name None ∷ []))) [
    | None ↦ (bare_keyed name None, tt)
    | Some id ↦ or_bare_keyed name id (map line_of_partition (map (walked name) (of_topic id image.partitions))) (rows_keyed name (of_topic id image.partitions))
  ]

  both_keyed : (xs ys : List Line) → AreKeyed xs → AreKeyed ys → AreKeyed (xs ++ ys)
  both_keyed [] ys h g = g
  both_keyed (x ∷ xs) ys h g = (h.0, both_keyed xs ys h.1 g)

  all_keyed : (names : List (List ℕ)) → AreKeyed (flat_map (name_lines image) names)
  all_keyed [] = tt
  all_keyed (n ∷ ns) = both_keyed (name_lines image n) (flat_map (name_lines image) ns) (name_keyed n) (all_keyed ns)

  some_keyed : (p : Line → Bool) (ls : List Line) → AreKeyed ls → AreKeyed (filter p ls)
  some_keyed p [] are = tt
  some_keyed p (l ∷ ls) are = elim (p l) as (λ b. AreKeyed (cond b (l ∷ filter p ls) (filter p ls))) [ true ↦ (are.0, some_keyed p ls are.1) | false ↦ some_keyed p ls are.1 ]

  lines_keyed : (names : List (List ℕ)) → AreKeyed (lines image names)
  unfolding lines
  lines_keyed names = all_keyed (names_of image names)

  -- ---- the first of them

  first_of_more : {X : Type 0} (n : ℕ) (xs : List X) → take n (take (suc n) xs) ≡ take n xs
  first_of_more zero xs = refl
  first_of_more (suc n) [] = refl
  first_of_more (suc n) (x ∷ xs) = ap (λ ys. x ∷ ys) (first_of_more n xs)

  next_of_more : {X : Type 0} (n : ℕ) (xs : List X) → slice_get (take (suc n) xs) n ≡ slice_get xs n
  next_of_more zero [] = refl
  next_of_more zero (x ∷ xs) = refl
  next_of_more (suc n) [] = refl
  next_of_more (suc n) (x ∷ xs) = next_of_more n xs

  taken_entries : (n : ℕ) (ls : List Line) → take n (line_entries image ls) ≡ line_entries image (take n ls)
  taken_entries zero ls = refl
  taken_entries (suc n) [] = refl
  taken_entries (suc n) (l ∷ ls) = ap (λ (es : List DescribedTopic). entry_of_topic image l ∷ es) (taken_entries n ls)

  next_key : (n : ℕ) (ls : List Line) → AreKeyed ls → option_map key_of_entry (slice_get (line_entries image ls) n) ≡ option_map (λ (l : Line). l.key) (slice_get ls n)
  next_key n [] are = refl
  next_key zero (l ∷ ls) are = ap (λ (k : LineKey). Some k) are.0
  next_key (suc n) (l ∷ ls) are = next_key n ls are.1

  -- the page of so many lines and one more
  pub page_of_entries : (d : Describe) (entries : List DescribedTopic) (described : Described) → entries ≡ take (limit_of d.limit + 1) (line_entries image (lines_from (lines image d.names) d.cursor)) → described ≡ described_of entries (limit_of d.limit) → described ≡ page image d
  page_of_entries d entries described taken is =
      let limit = limit_of d.limit in
      let ls = lines_from (lines image d.names) d.cursor in
      let more : limit + 1 ≡ suc limit = omega arith in
      let some : entries ≡ take (suc limit) (line_entries image ls) = taken ∙ ap (λ n. take n (line_entries image ls)) more in
      let topics : fold with_line_entry [] (take limit entries) ≡ topic_entries image (take limit ls) =
      ap (λ (es : List DescribedTopic). fold with_line_entry [] (take limit es)) some
      ∙ ap (fold with_line_entry []) (first_of_more limit (line_entries image ls) ∙ taken_entries limit ls)
      ∙ sym (same_fold [] (take limit ls)) in
      let next : option_map key_of_entry (slice_get entries limit) ≡ option_map (λ (l : Line). l.key) (slice_get ls limit) =
      ap (λ (es : List DescribedTopic). option_map key_of_entry (slice_get es limit)) some
      ∙ ap (option_map key_of_entry) (next_of_more limit (line_entries image ls))
      ∙ next_key limit ls (some_keyed (is_from d.cursor) (lines image d.names) (lines_keyed d.names)) in
      is ∙ (λ i. record { topics = topics i; next = next i })

-- ---- an entry more

joined_at : (b : Bool) (last entry : DescribedTopic) (parts : List DescribedPart) → parts ≡ last.parts ++ entry.parts → b ≡ true
    → (record last { parts = parts } ∷ []) ≡ cond b (record last { parts = last.parts ++ entry.parts } ∷ []) (last ∷ entry ∷ [])
joined_at true last entry parts is own = ap (λ (ps : List DescribedPart). record last { parts = ps } ∷ []) is
joined_at false last entry parts is own = absurd cc

apart_at : (b : Bool) (last entry : DescribedTopic) → b ≡ false → (last ∷ entry ∷ []) ≡ cond b (record last { parts = last.parts ++ entry.parts } ∷ []) (last ∷ entry ∷ [])
apart_at true last entry other = absurd cc
apart_at false last entry other = refl

with_last : (front : List DescribedTopic) (last entry : DescribedTopic) → with_line_entry (front ++ last ∷ []) entry ≡ front ++ with_line_entry (last ∷ []) entry
with_last [] last entry = refl
with_last (f ∷ []) last entry = refl
with_last (f ∷ g ∷ rest) last entry = ap (λ (ts : List DescribedTopic). f ∷ ts) (with_last (g ∷ rest) last entry)

module _ (old front : List DescribedTopic) (last entry : DescribedTopic) (parts : old ≡ front ++ last ∷ []) where
  pub entry_joins : (all : List DescribedPart) → all ≡ last.parts ++ entry.parts → is_of_topic entry.name last ≡ true → (new : List DescribedTopic) → new ≡ front ++ record last { parts = all } ∷ [] → new ≡ with_line_entry old entry
  entry_joins all is same new pushed =
      pushed ∙ ap (λ (ts : List DescribedTopic). front ++ ts) (joined_at (is_of_topic entry.name last) last entry all is same) ∙ sym (with_last front last entry) ∙ ap (λ (ts : List DescribedTopic). with_line_entry ts entry) (sym parts)

  pub entry_follows : is_of_topic entry.name last ≡ false → (mid new : List DescribedTopic) → mid ≡ front ++ last ∷ [] → new ≡ mid ++ entry ∷ [] → new ≡ with_line_entry old entry
  entry_follows other mid new first second =
      second ∙ ap (λ (ts : List DescribedTopic). ts ++ entry ∷ []) first ∙ append_assoc front (last ∷ []) (entry ∷ [])
      ∙ ap (λ (ts : List DescribedTopic). front ++ ts) (apart_at (is_of_topic entry.name last) last entry other) ∙ sym (with_last front last entry) ∙ ap (λ (ts : List DescribedTopic). with_line_entry ts entry) (sym parts)
