-- Entries are added line by line, of an image that several calls see.
use Rattle.std.proofs.Common.{◌≡◌, ◌∙◌, ℕ, ◌+◌, ◌≤◌, ◌<◌, ◌-◌, ℤ, pos, negsuc, Bool, true, false, cond, List, [], ◌∷◌, ◌++◌, length, length-append, take, refl, sym, ap, subst, arith}
use Rattle.std.specs.Prelude.{◌-ℤ◌, Option, Some, None, ◌&&◌, flat_map, int_lt, nat_eq, nat_le, slice_get}
use Rattle.std.specs.Option.{option_map}
use Rattle.std.proofs.lemmas.Bool.Decides.{nat_tests}
use Rattle.std.proofs.lemmas.List.{length-take}
use Rattle.kr_defs.specs.declared.partition.Partition.{Partition}
use Rattle.kr_defs.specs.Image.{Image, IsValid}
use Rattle.kr_defs.specs.Map.{above, get, text_order}
use Rattle.kr_defs.specs.Walk.{rest_of_topic}
use Rattle.kr_defs.proofs.ImageParts.{text_total}
use Rattle.kr_defs.proofs.Tests.{some_is}
use Rattle.kr_defs.proofs.Walks.{walk_end, walk_next}
use Rattle.kr_view.proofs.Filling.{IsFilling, none_added, none_left, one_added, one_more, some_more}
use Rattle.kr_pages.specs.declared.describe.DescribedPart.{DescribedPart}
use Rattle.kr_pages.specs.declared.describe.DescribedTopic.{DescribedTopic}
use Rattle.kr_pages.specs.Lines.{name_lines}
use Rattle.kr_pages.specs.Pages.{part_of}
use Rattle.kr_describe.specs.inner.ShownLines.{bare_entry, line_entries, index_before, name_entries, part_entries, part_entry, topics_entries}
use Rattle.kr_describe.proofs.ShownParts.{indexed, known_high, known_low, name_passes, no_part_left, or_bare, part_left, unknown_high, unknown_low}

abbrev Entry : Type 0
Entry = (ℕ × ℤ) × Partition

same_length : (n m : ℕ) → nat_eq n m ≡ true → n ≡ m
same_length n m is = grind (arith, nat_tests)

other_length : (n m : ℕ) → nat_eq n m ≡ false → n ≡ m → ⊥
other_length n m other same = grind (arith, nat_tests)

-- one more leaves less room
pub less_room : (most : ℕ) (rows new : List DescribedTopic) (x : DescribedTopic) → nat_le most (length rows) ≡ false → new ≡ rows ++ x ∷ [] → most - length new < most - length rows
less_room most rows new x free is =
    let room : length rows < most = grind (arith, nat_tests) in
    let long : length new ≡ length rows + 1 = ap (λ (es : List DescribedTopic). length es) is ∙ length-append rows (x ∷ []) in
    omega (arith, room, long)

module _ (image : Image) (valid : IsValid image) (most : ℕ) (old : List DescribedTopic) where
  -- ---- the partitions of a topic

  module _ (name : List ℕ) (id : ℕ) (first last : ℤ) (rows : List DescribedTopic) (f : IsFilling most old (part_entries image name id first) rows (part_entries image name id last)) (there : Image) (same : there ≡ image) where
    pub part_pushed : (new : List DescribedTopic) → nat_le most (length rows) ≡ false
        → (index : ℤ) (state : Partition) → Some (index, state) ≡ option_map indexed (slice_get (rest_of_topic (id, last) there.partitions) 0)
        → (later : Image) → later ≡ image → (part : DescribedPart) → part ≡ part_of later index state
        → (entry : DescribedTopic) → entry ≡ part_entry name id part → new ≡ rows ++ entry ∷ []
        → IsFilling most old (part_entries image name id first) new (part_entries image name id index)
    part_pushed new free index state is later as_later part made entry shown pushed =
        one_more most old (part_entries image name id first) rows (part_entries image name id last) f new (part_entries image name id index) (part_entry name id (part_of image index state))
        (pushed ∙ ap (λ (e : DescribedTopic). rows ++ e ∷ []) (shown ∙ ap (part_entry name id) (made ∙ ap (λ (i : Image). part_of i index state) as_later)))
        (part_left image valid name id last index state (subst (λ (i : Image). Some (index, state) ≡ option_map indexed (slice_get (rest_of_topic (id, last) i.partitions) 0)) same is))
        free

    pub parts_ended : None ≡ option_map indexed (slice_get (rest_of_topic (id, last) there.partitions) 0) → rows ≡ take most (old ++ part_entries image name id first)
    parts_ended none =
        none_left most old (part_entries image name id first) rows (part_entries image name id last) f
        (no_part_left image valid name id last (subst (λ (i : Image). None ≡ option_map indexed (slice_get (rest_of_topic (id, last) i.partitions) 0)) same none))

  -- ---- the topics

  found_topic : (name : List ℕ) (o : Option (List ℕ × ℕ)) → Some name ≡ option_map (λ (e : List ℕ × ℕ). e.0) o → (e : List ℕ × ℕ) × (o ≡ Some e) × (e.0 ≡ name)
  found_topic name None is = absurd cc
  found_topic name (Some e) is = (e, refl, sym (some_is name e.0 is))

  no_topic : (o : Option (List ℕ × ℕ)) → None ≡ option_map (λ (e : List ℕ × ℕ). e.0) o → o ≡ None
  no_topic None is = refl
  no_topic (Some e) is = absurd cc

  module _ (first last : List ℕ) (rows : List DescribedTopic) (f : IsFilling most old (topics_entries image first) rows (topics_entries image last)) (there : Image) (same : there ≡ image) where
    abbrev Found : List ℕ → Image → Type 0
    Found name i = Some name ≡ option_map (λ (e : List ℕ × ℕ). e.0) (slice_get (above text_order i.topics (Some last)) 0)

    topics_left : (name : List ℕ) → Found name there → (e : List ℕ × ℕ) × (above text_order image.topics (Some last) ≡ e ∷ above text_order image.topics (Some e.0)) × (e.0 ≡ name)
    topics_left name is =
        let found = found_topic name (slice_get (above text_order image.topics (Some last)) 0) (subst (Found name) same is) in
        (found.0, walk_next text_total image.topics (Some last) found.0 valid.topics.ordered found.1, found.2)

    pub topic_less : (name : List ℕ) → Found name there → length (above text_order image.topics (Some name)) < length (above text_order image.topics (Some last))
    topic_less name is =
        let left = topics_left name is in
        let long = ap (λ (es : List (List ℕ × ℕ)). length es) left.1 in
        let own = ap (λ (n : List ℕ). length (above text_order image.topics (Some n))) left.2 in
        omega (arith, long, own)

    pub topic_added : (name : List ℕ) → Found name there → (later : Image) → later ≡ image → (new : List DescribedTopic) → new ≡ take most (rows ++ name_entries later name (negsuc 0)) → IsFilling most old (topics_entries image first) new (topics_entries image name)
    topic_added name is later as_later new added =
        let left = topics_left name is in
        some_more most old (topics_entries image first) rows (topics_entries image last) f new (topics_entries image name) (line_entries image (name_lines image name))
        (added ∙ ap (λ (i : Image). take most (rows ++ name_entries i name (negsuc 0))) as_later ∙ ap (λ ls. take most (rows ++ line_entries image ls)) (name_passes image valid name (negsuc 0) refl))
        (ap (flat_map (λ (e : List ℕ × ℕ). line_entries image (name_lines image e.0))) left.1 ∙ ap (λ (n : List ℕ). line_entries image (name_lines image n) ++ topics_entries image n) left.2)

    pub topics_ended : None ≡ option_map (λ (e : List ℕ × ℕ). e.0) (slice_get (above text_order there.topics (Some last)) 0) → rows ≡ take most (old ++ topics_entries image first)
    topics_ended none =
        none_left most old (topics_entries image first) rows (topics_entries image last) f
        (ap (flat_map (λ (e : List ℕ × ℕ). line_entries image (name_lines image e.0))) (walk_end (above text_order image.topics (Some last)) (no_topic (slice_get (above text_order image.topics (Some last)) 0) (subst (λ (i : Image). None ≡ option_map (λ (e : List ℕ × ℕ). e.0) (slice_get (above text_order i.topics (Some last)) 0)) same none))))

  -- ---- the lines of a name from an index on

  room_for : (n : ℕ) → nat_le most n ≡ false → n + 1 ≤ most
  room_for n free = grind (arith, nat_tests)

  nothing_added : (xs mid : List DescribedTopic) → mid ≡ take most (old ++ xs) → nat_le most (length old) ≡ false → length mid ≡ length old → xs ≡ []
  nothing_added [] mid is free long = refl
  nothing_added (x ∷ xs) mid is free long =
      let taken = length-take most (old ++ x ∷ xs) in
      let both = length-append old (x ∷ xs) in
      let all = ap (λ (es : List DescribedTopic). length es) is in
      let room = room_for (length old) free in
      absurd (omega (arith, room, taken, both, all, long))

  module _ (name : List ℕ) (index : ℤ) (few : length old ≤ most) where
    before_low : int_lt index (pos 0) ≡ true → index_before index ≡ negsuc 0
    before_low low = ap (λ b. cond b (negsuc 0) (index -ℤ pos 1)) low

    before_high : int_lt index (pos 0) ≡ false → index_before index ≡ index -ℤ pos 1
    before_high high = ap (λ b. cond b (negsuc 0) (index -ℤ pos 1)) high

    module _ (none : get text_order image.topics name ≡ None) where
      pub unknown_added : int_lt index (pos 0) ≡ true → nat_le most (length old) ≡ false → (entry : DescribedTopic) → entry ≡ bare_entry name None → (new : List DescribedTopic) → new ≡ old ++ entry ∷ [] → new ≡ take most (old ++ name_entries image name index)
      unknown_added low free entry made new is = one_added most old new (name_entries image name index) (bare_entry name None) free (unknown_low image valid name index low none) (is ∙ ap (λ (e : DescribedTopic). old ++ e ∷ []) made)

      pub unknown_passed : int_lt index (pos 0) ≡ false → old ≡ take most (old ++ name_entries image name index)
      unknown_passed high = none_added most old (name_entries image name index) few (unknown_high image valid name index high none)

      pub unknown_done : nat_le most (length old) ≡ false → (b : Bool) → b ≡ int_lt index (pos 0) → (new : List DescribedTopic) → (b ≡ true → new ≡ old ++ bare_entry name None ∷ []) → (b ≡ false → new ≡ old) → new ≡ take most (old ++ name_entries image name index)
      unknown_done free b is new added none =
          elim b as (λ c. b ≡ c → new ≡ take most (old ++ name_entries image name index)) [
            | true ↦ λ low. unknown_added (sym is ∙ low) free (bare_entry name None) refl new (added low)
            | false ↦ λ high. none high ∙ unknown_passed (sym is ∙ high)
          ] refl

    module _ (id : ℕ) (named : get text_order image.topics name ≡ Some id) (mid : List DescribedTopic) (is : mid ≡ take most (old ++ part_entries image name id (index_before index))) where
      pub known_from : int_lt index (pos 0) ≡ false → mid ≡ take most (old ++ name_entries image name index)
      known_from high = is ∙ ap (λ (xs : List DescribedTopic). take most (old ++ xs)) (ap (part_entries image name id) (before_high high) ∙ sym (known_high image valid name index high id named))

      module _ (low : int_lt index (pos 0) ≡ true) (free : nat_le most (length old) ≡ false) where
        from_all : mid ≡ take most (old ++ part_entries image name id (negsuc 0))
        from_all = is ∙ ap (λ (i : ℤ). take most (old ++ part_entries image name id i)) (before_low low)

        filled : (xs : List DescribedTopic) → mid ≡ take most (old ++ xs) → (length mid ≡ length old → ⊥) → or_bare image valid name index id xs ≡ xs
        filled [] taken more = absurd (more (ap (λ (es : List DescribedTopic). length es) (taken ∙ sym (none_added most old [] few refl))))
        filled (x ∷ xs) taken more = refl

        pub known_added : (length mid ≡ length old → ⊥) → mid ≡ take most (old ++ name_entries image name index)
        known_added more = from_all ∙ ap (λ (xs : List DescribedTopic). take most (old ++ xs)) (sym (known_low image valid name index low id named ∙ filled (part_entries image name id (negsuc 0)) from_all more))

        pub bare_added : length mid ≡ length old → (entry : DescribedTopic) → entry ≡ bare_entry name (Some id) → (new : List DescribedTopic) → new ≡ mid ++ entry ∷ [] → new ≡ take most (old ++ name_entries image name index)
        bare_added long entry made new pushed =
            let none = nothing_added (part_entries image name id (negsuc 0)) mid from_all free long in
            let stays : mid ≡ old = from_all ∙ sym (none_added most old (part_entries image name id (negsuc 0)) few none) in
            one_added most old new (name_entries image name index) (bare_entry name (Some id)) free
            (known_low image valid name index low id named ∙ ap (or_bare image valid name index id) none)
            (pushed ∙ ap (λ (es : List DescribedTopic). es ++ entry ∷ []) stays ∙ ap (λ (e : DescribedTopic). old ++ e ∷ []) made)

      pub known_done : nat_le most (length old) ≡ false → (b : Bool) → b ≡ (int_lt index (pos 0) && nat_eq (length mid) (length old)) → (new : List DescribedTopic)
          → (b ≡ true → new ≡ mid ++ bare_entry name (Some id) ∷ []) → (b ≡ false → new ≡ mid) → new ≡ take most (old ++ name_entries image name index)
      known_done free b is new added none =
          elim (int_lt index (pos 0)) as (λ low. int_lt index (pos 0) ≡ low → b ≡ (low && nat_eq (length mid) (length old)) → new ≡ take most (old ++ name_entries image name index)) [
            | false ↦ λ high is. none is ∙ known_from high
            | true ↦ λ low is. elim (nat_eq (length mid) (length old)) as (λ same. nat_eq (length mid) (length old) ≡ same → b ≡ same → new ≡ take most (old ++ name_entries image name index)) [
              | true ↦ λ same is. bare_added low free (same_length (length mid) (length old) same) (bare_entry name (Some id)) refl new (added is)
              | false ↦ λ other is. none is ∙ known_added low free (λ long. other_length (length mid) (length old) other long)
            ] refl is
          ] refl is
