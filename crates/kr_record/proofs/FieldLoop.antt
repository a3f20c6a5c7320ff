-- Reading tagged fields one after the other, as a loop does.
use Rattle.std.proofs.Common.{◌≡◌, ℕ, suc, ◌-◌, ◌+◌, ◌≤◌, ◌<◌, List, take, drop, Option, Some, Ok, Err, refl, sym, ap, ◌∙◌, arith}
use Rattle.kr_wire.specs.Reading.{◌>>=◌, Read, Known, tag_at, field_of, fields_at}
use Rattle.kr_layout.specs.declared.fault.ReadFault.{ReadFault}
use Rattle.kr_layout.specs.declared.fault.ReadFault.TheVariants as reads
use Rattle.kr_layout.specs.Answers.{IsFaultOf, field_at}
use Rattle.kr_record.specs.Answers.{IsFieldFault}

module _ {X : Type 0} (known : Known X) (count i : ℕ) (last : Option ℕ) (bytes : List ℕ) (value : X) (total : Read X) where
  abbrev others : ℕ → Read (ℕ × List ℕ) → Read X
  others n read = read >>= λ f. (field_of (known f.0.0) value f.0.1 >>= λ after. fields_at known n (Some f.0.0) after f.1)

  by_tag : (n : ℕ) (r : Read (ℕ × ℕ)) → (r >>= λ tag. (field_of (known tag.0.0) value (take tag.0.1 tag.1) >>= λ after. fields_at known n (Some tag.0.0) after (drop tag.0.1 tag.1)))
      ≡ others n (r >>= λ t. Ok ((t.0.0, take t.0.1 t.1), drop t.0.1 t.1))
  by_tag n (Ok t) = refl
  by_tag n (Err e) = refl

  one_more : i < count → fields_at known (count - i) last value bytes ≡ total → others (count - (i + 1)) (field_at last bytes) ≡ total
  unfolding fields_at
  one_more lt so_far =
      let k : count - i ≡ suc (count - (i + 1)) = omega arith in
      sym (ap (λ (n : ℕ). fields_at known n last value bytes) k ∙ by_tag (count - (i + 1)) (tag_at last bytes)) ∙ so_far

  pub takes : (tag : ℕ) (part rest : List ℕ) (after : X) → i < count → field_at last bytes ≡ Ok ((tag, part), rest) → field_of (known tag) value part ≡ Ok after
      → fields_at known (count - i) last value bytes ≡ total → fields_at known (count - (i + 1)) (Some tag) after rest ≡ total
  takes tag part rest after lt read field so_far = sym (ap (others (count - (i + 1))) read ∙ rw field refl) ∙ one_more lt so_far

  pub ends_at_tag : (e : ReadFault) → i < count → IsFaultOf e (field_at last bytes) → fields_at known (count - i) last value bytes ≡ total → IsFaultOf e total
  ends_at_tag (reads.Wire fault) lt read so_far = sym (one_more lt so_far) ∙ ap (others (count - (i + 1))) read
  ends_at_tag reads.NoMemory lt read so_far = tt

  pub ends_in_field : (tag : ℕ) (part rest : List ℕ) (e : ReadFault) → i < count → field_at last bytes ≡ Ok ((tag, part), rest) → IsFieldFault e (field_of (known tag) value part)
      → fields_at known (count - i) last value bytes ≡ total → IsFaultOf e total
  ends_in_field tag part rest (reads.Wire fault) lt read field so_far = sym (one_more lt so_far) ∙ ap (others (count - (i + 1))) read ∙ rw field refl
  ends_in_field tag part rest reads.NoMemory lt read field so_far = tt

  pub done : count ≤ i → fields_at known (count - i) last value bytes ≡ total → total ≡ Ok (value, bytes)
  unfolding fields_at
  done le so_far =
      let k : count - i ≡ 0 = omega arith in
      sym so_far ∙ rw k refl

pub ruleset fields_read = (ends_at_tag, done)
