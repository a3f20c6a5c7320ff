-- The lines of several names from a cursor on, name by name.
use Rattle.std.proofs.Common.{suc, ◌≡◌, ◌∙◌, ℕ, ℤ, Bool, true, false, cond, not, List, [], ◌∷◌, ◌++◌, filter, length, map, take, refl, sym, ap, arith}
use Rattle.std.specs.Prelude.{◌==◌, IsTrue, Option, Some, None, flat_map, int_lt, negsuc}
use Rattle.std.specs.declared.cmp.Ordering.{Ordering}
use Rattle.std.specs.declared.cmp.Ordering.TheVariants.{Less, Equal, Greater}
use Rattle.std.specs.List.{AllByRecursion}
use Rattle.std.specs.Option.{option_map_or}
use Rattle.std.specs.Map.{keys_of}
use Rattle.std.specs.Ordering.{int_cmp, is_lt, ordering_reverse, ordering_then}
use Rattle.std.proofs.lemmas.Bool.Decides.{nat_tests}
use Rattle.std.proofs.lemmas.Int.{ints}
use Rattle.std.proofs.lemmas.List.{map-append}
use Rattle.std.proofs.lemmas.List.Elements.{filter-append, recursion_from_All}
use Rattle.std.proofs.lemmas.Map.Lookups.{exact_bytes}
use Rattle.kr_defs.specs.declared.partition.Partition.{Partition}
use Rattle.kr_defs.specs.Image.{Image, IsValid, is_index}
use Rattle.kr_defs.specs.Map.{above, get, text_order}
use Rattle.kr_defs.specs.Walk.{of_topic, walked}
use Rattle.kr_defs.proofs.ImageParts.{text_total}
use Rattle.kr_view.proofs.Behind.{split}
use Rattle.kr_view.proofs.Filling.{IsFilling, behind_others, some_more}
use Rattle.kr_pages.specs.declared.describe.LineKey.{LineKey}
use Rattle.kr_pages.specs.declared.describe.DescribedTopic.{DescribedTopic}
use Rattle.kr_pages.specs.Lines.{Line, bare_line, in_order, line_of_partition, lines_of_topic, lines, lines_or_bare, name_lines, names_of}
use Rattle.kr_pages.specs.Pages.{entry_of_topic, is_from, lines_from}
use Rattle.kr_describe.specs.inner.ShownLines.{cursor_or_first, line_entries, first_index, index_after, name_entries, names_entries, own_entries, topics_entries}
use Rattle.kr_describe.proofs.ShownParts.{name_passes}

-- ---- all lines of a name have it

abbrev AreOf : List ℕ → List Line → Type 0
AreOf name ls = AllByRecursion (λ (l : Line). l.key.topic ≡ name) ls

rows_of : (name : List ℕ) (es : List ((ℕ × ℤ) × Partition)) → AreOf name (map line_of_partition (map (walked name) es))
rows_of name [] = tt
rows_of name (e ∷ es) = (refl, rows_of name es)

or_bare_of : (name : List ℕ) (id : ℕ) (ls : List Line) → AreOf name ls → AreOf name (lines_or_bare name id ls)
or_bare_of name id [] h = (refl, tt)
or_bare_of name id (l ∷ ls) h = h

name_of : (image : Image) (name : List ℕ) → AreOf name (name_lines image name)
name_of image name = elim (get text_order image.topics name) as (λ o. AreOf name (option_map_or (lines_of_topic image name) o (bare_line name None ∷ []))) [
  | None ↦ (refl, tt)
  | Some id ↦ or_bare_of name id (map line_of_partition (map (walked name) (of_topic id image.partitions))) (rows_of name (of_topic id image.partitions))
]

module _ (image : Image) (valid : IsValid image) (cursor : LineKey) where
  abbrev passes : Line → Bool
  passes l = is_from (Some cursor) l

  all_alike : (b : Bool) (r : Ordering) (name : List ℕ) → text_order name cursor.topic ≡ r → ((i : ℤ) → not (is_lt (ordering_then r (int_cmp i cursor.index))) ≡ b) → (ls : List Line) → AreOf name ls → AllByRecursion (λ l. passes l ≡ b) ls
  all_alike b r name is every [] are = tt
  all_alike b r name is every (l ∷ ls) are =
      (ap (λ (t : List ℕ). not (is_lt (ordering_then (text_order t cursor.topic) (int_cmp l.key.index cursor.index)))) are.0 ∙ ap (λ o. not (is_lt (ordering_then o (int_cmp l.key.index cursor.index)))) is ∙ every l.key.index, all_alike b r name is every ls are.1)

  none_pass : (ls : List Line) → AllByRecursion (λ l. passes l ≡ false) ls → filter passes ls ≡ []
  none_pass [] a = refl
  none_pass (l ∷ ls) a = ap (λ b. cond b (l ∷ filter passes ls) (filter passes ls)) a.0 ∙ none_pass ls a.1

  all_pass : (ls : List Line) → AllByRecursion (λ l. passes l ≡ true) ls → filter passes ls ≡ ls
  all_pass [] a = refl
  all_pass (l ∷ ls) a = ap (λ b. cond b (l ∷ filter passes ls) (filter passes ls)) a.0 ∙ ap (λ (xs : List Line). l ∷ xs) (all_pass ls a.1)

  -- of each name the lines from an index on, or none
  one_name : (name : List ℕ) → line_entries image (filter passes (name_lines image name)) ≡ option_map_or (name_entries image name) (first_index name cursor) []
  one_name name = elim (text_order name cursor.topic) as (λ r. text_order name cursor.topic ≡ r → line_entries image (filter passes (name_lines image name)) ≡ option_map_or (name_entries image name) (index_after r cursor.index) []) [
    | Less ↦ λ is. ap (line_entries image) (none_pass (name_lines image name) (all_alike false Less name is (λ i. refl) (name_lines image name) (name_of image name)))
    | Equal ↦ λ is. let same : cursor.topic ≡ name = sym (exact_bytes name cursor.topic is) in ap (λ (t : List ℕ). line_entries image (filter (is_from (Some (record { topic = t; index = cursor.index }))) (name_lines image name))) same
    | Greater ↦ λ is. ap (line_entries image) (all_pass (name_lines image name) (all_alike true Greater name is (λ i. refl) (name_lines image name) (name_of image name)) ∙ sym (name_passes image valid name (negsuc 0) refl))
  ] refl

  pub next_name_entries : (name : List ℕ) (names : List (List ℕ)) → names_entries image cursor (name ∷ names) ≡ option_map_or (name_entries image name) (first_index name cursor) [] ++ names_entries image cursor names
  next_name_entries name names =
      ap (line_entries image) (filter-append passes (name_lines image name) (flat_map (name_lines image) names))
      ∙ map-append (entry_of_topic image) (filter passes (name_lines image name)) (filter passes (flat_map (name_lines image) names))
      ∙ ap (λ (xs : List DescribedTopic). xs ++ names_entries image cursor names) (one_name name)

  -- ---- of all topics: those of the cursor's own, and of the topics behind it

  abbrev own_lines : List ℕ × ℕ → List Line
  own_lines e = name_lines image e.0

  lines_of_names : (es : List (List ℕ × ℕ)) → flat_map (name_lines image) (keys_of es) ≡ flat_map own_lines es
  lines_of_names [] = refl
  lines_of_names (e ∷ es) = ap (λ (ls : List Line). name_lines image e.0 ++ ls) (lines_of_names es)

  entries_of_topics : (es : List (List ℕ × ℕ)) → line_entries image (flat_map own_lines es) ≡ flat_map (λ (e : List ℕ × ℕ). line_entries image (name_lines image e.0)) es
  entries_of_topics [] = refl
  entries_of_topics (e ∷ es) = map-append (entry_of_topic image) (name_lines image e.0) (flat_map own_lines es) ∙ ap (λ (xs : List DescribedTopic). line_entries image (name_lines image e.0) ++ xs) (entries_of_topics es)

  abbrev of_own : ℕ → List Line
  of_own id = filter passes (name_lines image cursor.topic)

  own_alike : (o : Option ℕ) → line_entries image (option_map_or of_own o []) ≡ option_map_or (λ (id : ℕ). name_entries image cursor.topic cursor.index) o []
  own_alike None = refl
  own_alike (Some id) = refl

  lines_split : filter passes (flat_map own_lines image.topics) ≡ option_map_or of_own (get text_order image.topics cursor.topic) [] ++ flat_map own_lines (above text_order image.topics (Some cursor.topic))
  lines_split =
      split passes own_lines cursor.topic of_own
      (λ e is. none_pass (name_lines image e.0) (all_alike false Less e.0 (text_total.antisymm e.0 cursor.topic ∙ ap ordering_reverse is) (λ i. refl) (name_lines image e.0) (name_of image e.0)))
      (λ e is. all_pass (name_lines image e.0) (all_alike true Greater e.0 (text_total.antisymm e.0 cursor.topic ∙ ap ordering_reverse is) (λ i. refl) (name_lines image e.0) (name_of image e.0)))
      (λ e is. ap (λ (t : List ℕ). filter passes (name_lines image t)) (sym (exact_bytes cursor.topic e.0 is)))
      image.topics valid.topics.ordered

  pub all_entries : names_entries image cursor (keys_of image.topics) ≡ own_entries image cursor ++ topics_entries image cursor.topic
  all_entries =
      ap (λ (ls : List Line). line_entries image (filter passes ls)) (lines_of_names image.topics)
      ∙ ap (line_entries image) lines_split
      ∙ map-append (entry_of_topic image) (option_map_or of_own (get text_order image.topics cursor.topic) []) (flat_map own_lines (above text_order image.topics (Some cursor.topic)))
      ∙ (λ i. own_alike (get text_order image.topics cursor.topic) i ++ entries_of_topics (above text_order image.topics (Some cursor.topic)) i)

-- ---- no line is before the first cursor

abbrev first : LineKey
first = record { topic = []; index = negsuc 0 }

abbrev IsLate : Line → Type 0
IsLate l = int_lt l.key.index (negsuc 0) ≡ false

index_late : (i : ℤ) → is_index i ≡ true → int_lt i (negsuc 0) ≡ false
index_late i is = grind (arith, ints)

by_index : (i : ℤ) → int_lt i (negsuc 0) ≡ false → not (is_lt (int_cmp i (negsuc 0))) ≡ true
by_index i late =
    ap (λ b. not (is_lt (cond b Less (cond (int_lt (negsuc 0) i) Greater Equal)))) late
    ∙ elim (int_lt (negsuc 0) i) as (λ b. not (is_lt (cond b Greater Equal)) ≡ true) [ true ↦ refl | false ↦ refl ]

late_from : (topic : List ℕ) (i : ℤ) → int_lt i (negsuc 0) ≡ false → not (is_lt (ordering_then (text_order topic []) (int_cmp i (negsuc 0)))) ≡ true
late_from [] i late = by_index i late
late_from (t ∷ ts) i late = refl

late_pass : (ls : List Line) → AllByRecursion IsLate ls → filter (is_from (Some first)) ls ≡ ls
late_pass [] a = refl
late_pass (l ∷ ls) a =
    ap (λ b. cond b (l ∷ filter (is_from (Some first)) ls) (filter (is_from (Some first)) ls)) (late_from l.key.topic l.key.index a.0)
    ∙ ap (λ (xs : List Line). l ∷ xs) (late_pass ls a.1)

rows_late : (name : List ℕ) (id : ℕ) (es : List ((ℕ × ℤ) × Partition)) → AllByRecursion (λ (e : (ℕ × ℤ) × Partition). IsTrue (is_index e.0.1)) es → AllByRecursion IsLate (map line_of_partition (map (walked name) (of_topic id es)))
rows_late name id [] a = tt
rows_late name id (e ∷ es) a = elim (e.0.0 == id) as (λ b. AllByRecursion IsLate (map line_of_partition (map (walked name) (cond b (e ∷ of_topic id es) (of_topic id es))))) [
  | true ↦ (index_late e.0.1 a.0, rows_late name id es a.1)
  | false ↦ rows_late name id es a.1
]

or_bare_late : (name : List ℕ) (id : ℕ) (ls : List Line) → AllByRecursion IsLate ls → AllByRecursion IsLate (lines_or_bare name id ls)
or_bare_late name id [] h = (refl, tt)
or_bare_late name id (l ∷ ls) h = h

module _ (image : Image) (valid : IsValid image) where
  name_late : (name : List ℕ) → AllByRecursion IsLate (name_lines image name)
  name_late name = elim (get text_order image.topics name) as (λ o. AllByRecursion IsLate (option_map_or (lines_of_topic image name) o (bare_line name None ∷ []))) [
    | None ↦ (refl, tt)
    | Some id ↦ or_bare_late name id (map line_of_partition (map (walked name) (of_topic id image.partitions))) (rows_late name id image.partitions (recursion_from_All (λ (e : (ℕ × ℤ) × Partition). IsTrue (is_index e.0.1)) image.partitions valid.partitions.indexes))
  ]

  both_late : (xs ys : List Line) → AllByRecursion IsLate xs → AllByRecursion IsLate ys → AllByRecursion IsLate (xs ++ ys)
  both_late [] ys h g = g
  both_late (x ∷ xs) ys h g = (h.0, both_late xs ys h.1 g)

  all_late : (names : List (List ℕ)) → AllByRecursion IsLate (flat_map (name_lines image) names)
  all_late [] = tt
  all_late (n ∷ ns) = both_late (name_lines image n) (flat_map (name_lines image) ns) (name_late n) (all_late ns)

  all_from : (ls : List Line) → filter (is_from None) ls ≡ ls
  all_from [] = refl
  all_from (l ∷ ls) = ap (λ (xs : List Line). l ∷ xs) (all_from ls)

  -- the lines from a cursor on, or from the first one on
  pub lines_from_first : (names : List (List ℕ)) (cursor : Option LineKey) → line_entries image (lines_from (lines image names) cursor) ≡ names_entries image (cursor_or_first cursor) (names_of image names)
  unfolding lines
  lines_from_first names None = ap (line_entries image) (all_from (flat_map (name_lines image) (names_of image names)) ∙ sym (late_pass (flat_map (name_lines image) (names_of image names)) (all_late (names_of image names))))
  lines_from_first names (Some cursor) = refl

  -- ---- added

  not_none : (n : ℕ) → (suc n == 0) ≡ true → ⊥
  not_none n h = grind (arith, nat_tests)

  is_none : (0 == 0) ≡ false → ⊥
  is_none h = grind (arith, nat_tests)

  all_names : (names : List (List ℕ)) → (length names == 0) ≡ true → names_of image names ≡ keys_of image.topics
  all_names [] none = refl
  all_names (name ∷ names) none = absurd (not_none (length names) none)

  given_names : (names : List (List ℕ)) → (length names == 0) ≡ false → names_of image names ≡ in_order names
  given_names [] some = absurd (is_none some)
  given_names (name ∷ names) some = refl

  module _ (most : ℕ) (old new : List DescribedTopic) where
    -- of the cursor's own topic, and of the topics behind it
    pub both_added : (cursor : LineKey) (mid : List DescribedTopic) → mid ≡ take most (old ++ own_entries image cursor) → (there : Image) → there ≡ image → new ≡ take most (mid ++ topics_entries there cursor.topic)
        → new ≡ take most (old ++ names_entries image cursor (keys_of image.topics))
    both_added cursor mid first there same second =
        behind_others most old mid new (own_entries image cursor) (topics_entries image cursor.topic) first (second ∙ ap (λ (i : Image). take most (mid ++ topics_entries i cursor.topic)) same)
        ∙ ap (λ (xs : List DescribedTopic). take most (old ++ xs)) (sym (all_entries image valid cursor))

    module _ (cursor asked : LineKey) (same : cursor ≡ asked) (names : List (List ℕ)) where
      pub of_all : (length names == 0) ≡ true → new ≡ take most (old ++ names_entries image cursor (keys_of image.topics)) → new ≡ take most (old ++ names_entries image asked (names_of image names))
      of_all none added = added ∙ (λ i. take most (old ++ names_entries image (same i) (sym (all_names names none) i)))

      pub of_names : (length names == 0) ≡ false → (keys : List (List ℕ)) → keys ≡ in_order names → new ≡ take most (old ++ names_entries image cursor keys) → new ≡ take most (old ++ names_entries image asked (names_of image names))
      of_names some keys ordered added = added ∙ (λ i. take most (old ++ names_entries image (same i) ((ordered ∙ sym (given_names names some)) i)))

  -- of one name more
  pub name_added : (most : ℕ) (old : List DescribedTopic) (cursor : LineKey) (all names : List (List ℕ)) (rows : List DescribedTopic)
      → IsFilling most old (names_entries image cursor all) rows (names_entries image cursor names)
      → (name : List ℕ) (rest : List (List ℕ)) → names ≡ name ∷ rest → (there : Image) → there ≡ image
      → {new : List DescribedTopic} → new ≡ take most (rows ++ option_map_or (name_entries there name) (first_index name cursor) [])
      → IsFilling most old (names_entries image cursor all) new (names_entries image cursor rest)
  name_added most old cursor all names rows f name rest is there same {new} added =
      some_more most old (names_entries image cursor all) rows (names_entries image cursor names) f new (names_entries image cursor rest) (option_map_or (name_entries image name) (first_index name cursor) [])
      (added ∙ ap (λ (i : Image). take most (rows ++ option_map_or (name_entries i name) (first_index name cursor) [])) same)
      (ap (names_entries image cursor) is ∙ next_name_entries image valid cursor name rest)
