-- The lines of a topic's partitions, one after the other.
use Rattle.std.proofs.Common.{◌≡◌, ◌∙◌, ℕ, ℤ, Bool, true, false, cond, not, List, [], ◌∷◌, filter, map, refl, sym, ap, arith}
use Rattle.std.specs.Prelude.{◌==◌, ◌-ℤ◌, IsTrue, int_lt, pos, negsuc, Option, Some, None, slice_get}
use Rattle.std.specs.declared.cmp.Ordering.{Ordering}
use Rattle.std.specs.declared.cmp.Ordering.TheVariants.{Less, Equal, Greater}
use Rattle.std.specs.List.{AllByRecursion}
use Rattle.std.specs.Option.{option_map, option_map_or}
use Rattle.std.specs.Ordering.{int_cmp, is_lt, ordering_reverse, ordering_then}
use Rattle.std.proofs.lemmas.Bool.Decides.{nat_tests}
use Rattle.std.proofs.lemmas.Int.{ints}
use Rattle.std.proofs.lemmas.List.Elements.{recursion_from_All}
use Rattle.kr_defs.specs.declared.partition.Partition.{Partition}
use Rattle.kr_defs.specs.Image.{Image, IsValid, is_index}
use Rattle.kr_defs.specs.Map.{IsMap, above, get, next, partition_order, text_order}
use Rattle.kr_defs.specs.Walk.{of_topic, rest_of_topic, walk_topic, walked}
use Rattle.kr_defs.proofs.ImageParts.{text_total}
use Rattle.kr_defs.proofs.Tests.{some_is}
use Rattle.kr_defs.proofs.TopicWalks.{group_begin, group_end, group_next, group_none, same_topic}
use Rattle.kr_defs.proofs.Walks.{walk_end}
use Rattle.kr_view.proofs.Behind.{of_topic_behind}
use Rattle.kr_pages.specs.declared.describe.DescribedTopic.{DescribedTopic}
use Rattle.kr_pages.specs.Lines.{Line, bare_line, line_of_partition, lines_or_bare, lines_of_topic, name_lines}
use Rattle.kr_pages.specs.Pages.{entry_of_topic, is_from, part_of}
use Rattle.kr_describe.specs.inner.ShownLines.{bare_entry, line_entries, name_entries, part_entries, part_entry}

abbrev Entry : Type 0
Entry = (ℕ × ℤ) × Partition

-- ---- the next partition of a topic

abbrev pub indexed : Entry → ℤ × Partition
indexed e = (e.0.1, e.1)

module _ (ps : List Entry) (ordered : IsMap partition_order ps) (id : ℕ) (last : ℤ) where
  abbrev after : ℕ × ℤ
  after = (id, last)

  not_empty : (e : Entry) (xs : List Entry) → xs ≡ [] → slice_get xs 0 ≡ Some e → ⊥
  not_empty e xs none is = let h : None ≡ Some e = sym (ap (λ (ys : List Entry). slice_get ys 0) none) ∙ is in cc

  by_next : (e : Entry) → slice_get (rest_of_topic after ps) 0 ≡ Some e → (o : Option Entry) → next partition_order ps (Some after) ≡ o → rest_of_topic after ps ≡ e ∷ rest_of_topic (id, e.0.1) ps
  by_next e is None found = absurd (not_empty e (rest_of_topic after ps) (group_none ps ordered after (sym found)) is)
  by_next e is (Some h) found =
      elim (h.0.0 == id) as (λ b. (h.0.0 == id) ≡ b → rest_of_topic after ps ≡ e ∷ rest_of_topic (id, e.0.1) ps) [
        | true ↦ λ own.
            let same : h.0.0 ≡ id = same_topic h.0.0 id own in
            let rest : rest_of_topic after ps ≡ h ∷ of_topic h.0.0 (above partition_order ps (Some (h.0.0, h.0.1))) = group_next ps ordered after h (sym found) same in
            let first : h ≡ e = some_is h e (sym (ap (λ (ys : List Entry). slice_get ys 0) rest) ∙ is) in
            rest ∙ ap (λ (i : ℕ). h ∷ of_topic i (above partition_order ps (Some (i, h.0.1)))) same ∙ ap (λ (x : Entry). x ∷ rest_of_topic (id, x.0.1) ps) first
        | false ↦ λ other. absurd (not_empty e (rest_of_topic after ps) (group_end ps ordered after h (sym found) (λ same. differs h.0.0 same other)) is)
      ] refl
    where
      differs : (x : ℕ) → x ≡ id → (x == id) ≡ false → ⊥
      differs x same other = grind (arith, nat_tests)

  rest_next : (e : Entry) → slice_get (rest_of_topic after ps) 0 ≡ Some e → rest_of_topic after ps ≡ e ∷ rest_of_topic (id, e.0.1) ps
  rest_next e is = by_next e is (next partition_order ps (Some after)) refl

-- the first one is of the topic
first_own : (id : ℕ) (es : List Entry) (e : Entry) → slice_get (of_topic id es) 0 ≡ Some e → e.0.0 ≡ id
first_own id [] e is = absurd cc
first_own id (h ∷ es) e is = elim (h.0.0 == id) as (λ b. (h.0.0 == id) ≡ b → slice_get (cond b (h ∷ of_topic id es) (of_topic id es)) 0 ≡ Some e → e.0.0 ≡ id) [
  | true ↦ λ own first. ap (λ (x : Entry). x.0.0) (sym (some_is h e first)) ∙ same_topic h.0.0 id own
  | false ↦ λ other first. first_own id es e first
] refl is

module _ (image : Image) (valid : IsValid image) (name : List ℕ) (id : ℕ) (last : ℤ) where
  found_entry : (index : ℤ) (state : Partition) (o : Option Entry) → Some (index, state) ≡ option_map indexed o → (e : Entry) × (o ≡ Some e) × (indexed e ≡ (index, state))
  found_entry index state None is = absurd cc
  found_entry index state (Some e) is = (e, refl, sym (some_is (index, state) (indexed e) is))

  pub part_left : (index : ℤ) (state : Partition) → Some (index, state) ≡ option_map indexed (slice_get (rest_of_topic (id, last) image.partitions) 0)
      → part_entries image name id last ≡ part_entry name id (part_of image index state) ∷ part_entries image name id index
  part_left index state is =
      let f = found_entry index state (slice_get (rest_of_topic (id, last) image.partitions) 0) is in
      let row : Entry → DescribedTopic = λ e. entry_of_topic image (line_of_partition (walked name e)) in
      ap (map row) (rest_next image.partitions valid.partitions.ordered id last f.0 f.1)
      ∙ ap (λ (i : ℕ). part_entry name i (part_of image f.0.0.1 f.0.1) ∷ part_entries image name id f.0.0.1) (first_own id (above partition_order image.partitions (Some (id, last))) f.0 f.1)
      ∙ ap (λ (x : ℤ × Partition). part_entry name id (part_of image x.0 x.1) ∷ part_entries image name id x.0) f.2

  no_entry : (o : Option Entry) → None ≡ option_map indexed o → o ≡ None
  no_entry None is = refl
  no_entry (Some e) is = absurd cc

  pub no_part_left : None ≡ option_map indexed (slice_get (rest_of_topic (id, last) image.partitions) 0) → part_entries image name id last ≡ []
  no_part_left is =
      ap (map (λ (e : Entry). entry_of_topic image (line_of_partition (walked name e)))) (walk_end (rest_of_topic (id, last) image.partitions) (no_entry (slice_get (rest_of_topic (id, last) image.partitions) 0) is))

-- ---- the lines of a name from an index on

equal_itself : (o : Ordering) → o ≡ ordering_reverse o → o ≡ Equal
equal_itself Less h = absurd cc
equal_itself Equal h = refl
equal_itself Greater h = absurd cc

text_itself : (x : List ℕ) → text_order x x ≡ Equal
text_itself x = equal_itself (text_order x x) (text_total.antisymm x x)

lt_is : (a b : ℤ) → is_lt (int_cmp a b) ≡ int_lt a b
lt_is a b = elim (int_lt a b) as (λ c. is_lt (cond c Less (cond (int_lt b a) Greater Equal)) ≡ c) [
  | true ↦ refl
  | false ↦ elim (int_lt b a) as (λ d. is_lt (cond d Greater Equal) ≡ false) [ true ↦ refl | false ↦ refl ]
]

shifted : (i index : ℤ) → not (int_lt i index) ≡ int_lt (index -ℤ pos 1) i
shifted i index = grind (arith, ints)

below_bare : (index : ℤ) → int_lt index (pos 0) ≡ true → int_lt (negsuc 0) index ≡ false
below_bare index low = grind (arith, ints)

above_bare : (index : ℤ) → int_lt index (pos 0) ≡ false → int_lt (negsuc 0) index ≡ true
above_bare index high = grind (arith, ints)

below_all : (i index : ℤ) → int_lt index (pos 0) ≡ true → is_index i ≡ true → int_lt i index ≡ false
below_all i index low is = grind (arith, ints)

module _ (image : Image) (valid : IsValid image) (name : List ℕ) (index : ℤ) where
  abbrev passes : Line → Bool
  passes line = is_from (Some (record { topic = name; index = index })) line

  abbrev row : Entry → DescribedTopic
  row e = entry_of_topic image (line_of_partition (walked name e))

  abbrev line : Entry → Line
  line e = line_of_partition (walked name e)

  -- a line of this name passes by its index
  own_line : (l : Line) → l.key.topic ≡ name → passes l ≡ not (int_lt l.key.index index)
  own_line l own =
      ap (λ (t : List ℕ). not (is_lt (ordering_then (text_order t name) (int_cmp l.key.index index)))) own
      ∙ ap (λ o. not (is_lt (ordering_then o (int_cmp l.key.index index)))) (text_itself name)
      ∙ ap not (lt_is l.key.index index)

  all_rows : (es : List Entry) → line_entries image (map line_of_partition (map (walked name) es)) ≡ map row es
  all_rows [] = refl
  all_rows (e ∷ es) = ap (λ xs. row e ∷ xs) (all_rows es)

  abbrev pub or_bare : ℕ → List DescribedTopic → List DescribedTopic
  or_bare id [] = bare_entry name (Some id) ∷ []
  or_bare id (x ∷ xs) = x ∷ xs

  entries_or_bare : (id : ℕ) (ls : List Line) → line_entries image (lines_or_bare name id ls) ≡ or_bare id (line_entries image ls)
  entries_or_bare id [] = refl
  entries_or_bare id (l ∷ ls) = refl

  -- below 0 all pass
  module _ (low : int_lt index (pos 0) ≡ true) where
    bare_passes : (id : Option ℕ) → passes (bare_line name id) ≡ true
    bare_passes id = own_line (bare_line name id) refl ∙ ap not (below_bare index low)

    rows_pass : (es : List Entry) → AllByRecursion (λ (e : Entry). IsTrue (is_index e.0.1)) es → filter passes (map line_of_partition (map (walked name) es)) ≡ map line_of_partition (map (walked name) es)
    rows_pass [] a = refl
    rows_pass (e ∷ es) a =
        ap (λ b. cond b (line e ∷ filter passes (map line_of_partition (map (walked name) es))) (filter passes (map line_of_partition (map (walked name) es)))) (own_line (line e) refl ∙ ap not (below_all e.0.1 index low a.0))
        ∙ ap (λ ls. line e ∷ ls) (rows_pass es a.1)

    lines_pass : (id : ℕ) (ls : List Line) → filter passes ls ≡ ls → filter passes (lines_or_bare name id ls) ≡ lines_or_bare name id ls
    lines_pass id [] all = ap (λ b. cond b (bare_line name (Some id) ∷ []) []) (bare_passes (Some id))
    lines_pass id (l ∷ ls) all = all

    indexes_in : (id : ℕ) (es : List Entry) → AllByRecursion (λ (e : Entry). IsTrue (is_index e.0.1)) es → AllByRecursion (λ (e : Entry). IsTrue (is_index e.0.1)) (of_topic id es)
    indexes_in id [] a = tt
    indexes_in id (e ∷ es) a = elim (e.0.0 == id) as (λ b. AllByRecursion (λ (e : Entry). IsTrue (is_index e.0.1)) (cond b (e ∷ of_topic id es) (of_topic id es))) [ true ↦ (a.0, indexes_in id es a.1) | false ↦ indexes_in id es a.1 ]

    pub unknown_low : get text_order image.topics name ≡ None → name_entries image name index ≡ bare_entry name None ∷ []
    unknown_low none =
        ap (λ (o : Option ℕ). line_entries image (filter passes (option_map_or (lines_of_topic image name) o (bare_line name None ∷ [])))) none
        ∙ ap (λ b. line_entries image (cond b (bare_line name None ∷ []) [])) (bare_passes None)

    pub known_low : (id : ℕ) → get text_order image.topics name ≡ Some id → name_entries image name index ≡ or_bare id (part_entries image name id (negsuc 0))
    known_low id named =
        let indexes = recursion_from_All (λ (e : Entry). IsTrue (is_index e.0.1)) image.partitions valid.partitions.indexes in
        let own = of_topic id image.partitions in
        ap (λ (o : Option ℕ). line_entries image (filter passes (option_map_or (lines_of_topic image name) o (bare_line name None ∷ [])))) named
        ∙ ap (line_entries image) (lines_pass id (map line_of_partition (walk_topic image.partitions (name, id))) (rows_pass own (indexes_in id image.partitions indexes)))
        ∙ entries_or_bare id (map line_of_partition (walk_topic image.partitions (name, id)))
        ∙ ap (or_bare id) (all_rows own ∙ ap (map row) (sym (group_begin id image.partitions indexes)))

  -- from 0 on those above the index before
  module _ (high : int_lt index (pos 0) ≡ false) where
    bare_fails : (id : Option ℕ) → passes (bare_line name id) ≡ false
    bare_fails id = own_line (bare_line name id) refl ∙ ap not (above_bare index high)

    abbrev is_behind : Entry → Bool
    is_behind e = is_lt (int_cmp (index -ℤ pos 1) e.0.1)

    row_behind : (e : Entry) → passes (line e) ≡ is_behind e
    row_behind e = own_line (line e) refl ∙ shifted e.0.1 index ∙ sym (lt_is (index -ℤ pos 1) e.0.1)

    rows_behind : (es : List Entry) → line_entries image (filter passes (map line_of_partition (map (walked name) es))) ≡ map row (filter is_behind es)
    rows_behind [] = refl
    rows_behind (e ∷ es) =
        ap (λ b. line_entries image (cond b (line e ∷ filter passes (map line_of_partition (map (walked name) es))) (filter passes (map line_of_partition (map (walked name) es))))) (row_behind e)
        ∙ elim (is_behind e) as (λ b. line_entries image (cond b (line e ∷ filter passes (map line_of_partition (map (walked name) es))) (filter passes (map line_of_partition (map (walked name) es)))) ≡ map row (cond b (e ∷ filter is_behind es) (filter is_behind es))) [
          | true ↦ ap (λ xs. row e ∷ xs) (rows_behind es)
          | false ↦ rows_behind es
        ]

    no_bare : (id : ℕ) (ls : List Line) → filter passes (lines_or_bare name id ls) ≡ filter passes ls
    no_bare id [] = ap (λ b. cond b (bare_line name (Some id) ∷ []) []) (bare_fails (Some id))
    no_bare id (l ∷ ls) = refl

    pub unknown_high : get text_order image.topics name ≡ None → name_entries image name index ≡ []
    unknown_high none =
        ap (λ (o : Option ℕ). line_entries image (filter passes (option_map_or (lines_of_topic image name) o (bare_line name None ∷ [])))) none
        ∙ ap (λ b. line_entries image (cond b (bare_line name None ∷ []) [])) (bare_fails None)

    pub known_high : (id : ℕ) → get text_order image.topics name ≡ Some id → name_entries image name index ≡ part_entries image name id (index -ℤ pos 1)
    known_high id named =
        ap (λ (o : Option ℕ). line_entries image (filter passes (option_map_or (lines_of_topic image name) o (bare_line name None ∷ [])))) named
        ∙ ap (line_entries image) (no_bare id (map line_of_partition (walk_topic image.partitions (name, id))))
        ∙ rows_behind (of_topic id image.partitions)
        ∙ ap (map row) (of_topic_behind id (index -ℤ pos 1) is_behind (λ e. refl) image.partitions)

  -- below 0 all lines of the name pass
  pub name_passes : int_lt index (pos 0) ≡ true → filter passes (name_lines image name) ≡ name_lines image name
  name_passes low =
      let indexes = recursion_from_All (λ (e : Entry). IsTrue (is_index e.0.1)) image.partitions valid.partitions.indexes in
      elim (get text_order image.topics name) as (λ o. filter passes (option_map_or (lines_of_topic image name) o (bare_line name None ∷ [])) ≡ option_map_or (lines_of_topic image name) o (bare_line name None ∷ [])) [
        | None ↦ ap (λ b. cond b (bare_line name None ∷ []) []) (bare_passes low None)
        | Some id ↦ lines_pass low id (map line_of_partition (walk_topic image.partitions (name, id))) (rows_pass low (of_topic id image.partitions) (indexes_in low id image.partitions indexes))
      ]
