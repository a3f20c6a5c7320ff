-- Records that are added to a writer one after the other.
use Rattle.std.proofs.Common.{◌≡◌, ◌∙◌, ℕ, ℤ, List, [], ◌∷◌, ◌++◌, append_assoc, refl, sym, ap, subst, arith, All, negsuc}
use Rattle.std.specs.Prelude.{map, Option, Some, None, IsTrue}
use Rattle.std.specs.declared.cmp.Ordering.{Ordering}
use Rattle.std.specs.Cmp.{IsTotalOrder}
use Rattle.std.specs.List.{AllByRecursion}
use Rattle.std.proofs.lemmas.List.{append-nil}
use Rattle.std.proofs.lemmas.List.Elements.{All-nil, All-append, All-from_recursion, recursion_from_All}
use Rattle.std.proofs.lemmas.List.Sums.{sum_by-append}
use Rattle.kr_defs.specs.declared.partition.Partition.{Partition}
use Rattle.kr_defs.specs.declared.record.Record.{Record}
use Rattle.kr_defs.specs.declared.record.Record.TheVariants as kinds
use Rattle.kr_defs.specs.Image.{is_index}
use Rattle.kr_defs.specs.Map.{IsMap, above, next, partition_order}
use Rattle.kr_defs.specs.Records.{topic_records, partition_record as walked_record}
use Rattle.kr_defs.specs.Walk.{walked, of_topic}
use Rattle.kr_defs.proofs.Walks.{walk_next, walk_end}
use Rattle.kr_defs.proofs.TopicWalks.{group_begin}
use Rattle.kr_record.specs.Encodable.{IsHeld}
use Rattle.kr_snapshot.specs.inner.EntryRecords.{partition_record}
use Rattle.kr_snapshot.specs.inner.Writer.{setting_text, IsLight, texts, Stands, Adds, IsAmid, MayAdd}
use Rattle.kr_snapshot.specs.declared.batch_writer.BatchWriter.{BatchWriter}

pub all_front : {X : Type 0} (P : X → Type 0) (xs ys : List X) → AllByRecursion P (xs ++ ys) → AllByRecursion P xs
all_front P [] ys a = tt
all_front P (x ∷ xs) ys a = (a.0, all_front P xs ys a.1)

pub all_back : {X : Type 0} (P : X → Type 0) (xs ys : List X) → AllByRecursion P (xs ++ ys) → AllByRecursion P ys
all_back P [] ys a = a
all_back P (x ∷ xs) ys a = all_back P xs ys a.1

pub adds_none : (w : BatchWriter) → Adds w w []
adds_none w = record { stands = λ done s little. subst (Stands w) (sym (append-nil done)) s; held = All-nil IsHeld }

pub adds_then : (a b c : BatchWriter) (xs ys : List Record) → Adds a b xs → Adds b c ys → Adds a c (xs ++ ys)
adds_then a b c xs ys first second =
    let sum = sum_by-append setting_text xs ys in
    record {
      stands = λ done s little.
          subst (Stands c) (append_assoc done xs ys)
          (second.stands (done ++ xs) (first.stands done s (omega (arith, sum, little))) (omega (arith, sum, little, sum_by-append setting_text done xs)));
      held = All-append IsHeld xs ys first.held second.held;
    }

pub amid_start : (w : BatchWriter) (all : List Record) → MayAdd w all → IsAmid w w all all
amid_start w all may = record { done = []; parts = refl; adds = adds_none w }

module _ (w now : BatchWriter) (all left : List Record) (amid : IsAmid w now all left) where
  pub amid_may : (front back : List Record) → left ≡ front ++ back → MayAdd w all → MayAdd now front
  amid_may front back is may =
      let parts : all ≡ amid.done ++ (front ++ back) = amid.parts ∙ ap (λ (rs : List Record). amid.done ++ rs) is in
      let light = subst (λ (rs : List Record). AllByRecursion IsLight rs) parts (recursion_from_All IsLight all may.light) in
      let own = all_front IsLight front back (all_back IsLight amid.done (front ++ back) light) in
      let sum = ap texts parts in
      let s = sum_by-append setting_text amid.done (front ++ back) in
      let t = sum_by-append setting_text front back in
      let u = sum_by-append setting_text may.done amid.done in
      let most = may.little in
      record {
        done = may.done ++ amid.done;
        stands = amid.adds.stands may.done may.stands (omega (arith, sum, s, most));
        light = All-from_recursion IsLight front own;
        little = omega (arith, sum, s, t, u, most);
      }

  pub amid_more : (after : BatchWriter) (front back : List Record) → left ≡ front ++ back → Adds now after front → IsAmid w after all back
  amid_more after front back is adds = record {
    done = amid.done ++ front;
    parts = amid.parts ∙ (ap (λ (rs : List Record). amid.done ++ rs) is ∙ sym (append_assoc amid.done front back));
    adds = adds_then w now after amid.done front amid.adds adds;
  }

  pub amid_end : left ≡ [] → Adds w now all
  amid_end none = subst (λ (rs : List Record). Adds w now rs) (sym (amid.parts ∙ (ap (λ (rs : List Record). amid.done ++ rs) none ∙ append-nil amid.done))) amid.adds

-- ---- walks

module _ {K V : Type 0} {R : K → K → Ordering} (o : IsTotalOrder R) (f : K × V → Record) (es : List (K × V)) (after : Option K) where
  pub walk_left : (e : K × V) → IsMap R es → Some e ≡ next R es after → map f (above R es after) ≡ (f e ∷ []) ++ map f (above R es (Some e.0))
  walk_left e ordered found = ap (map f) (walk_next o es after e ordered (sym found))

  pub walk_done : None ≡ next R es after → map f (above R es after) ≡ []
  walk_done none = ap (map f) (walk_end (above R es after) (sym none))

-- ---- the partitions of a topic

one_by_one : (name : List ℕ) (es : List ((ℕ × ℤ) × Partition)) → map walked_record (map (walked name) es) ≡ map partition_record es
one_by_one name [] = refl
one_by_one name (e ∷ es) = ap (λ rs. partition_record e ∷ rs) (one_by_one name es)

pub topic_parts : (name : List ℕ) (id : ℕ) (ps : List ((ℕ × ℤ) × Partition)) → All (λ e. IsTrue (is_index e.0.1)) ps
    → topic_records ps (name, id) ≡ (kinds.Topic name id ∷ []) ++ map partition_record (of_topic id (above partition_order ps (Some (id, negsuc 0))))
topic_parts name id ps indexes =
    ap (λ rs. kinds.Topic name id ∷ rs)
    (one_by_one name (of_topic id ps) ∙ ap (map partition_record) (sym (group_begin id ps (recursion_from_All (λ (e : (ℕ × ℤ) × Partition). IsTrue (is_index e.0.1)) ps indexes))))

-- ---- all of them

pub may_none : (w : BatchWriter) (records : List Record) → MayAdd w records → MayAdd w []
may_none w records may = record { done = may.done; stands = may.stands; light = All-nil IsLight; little = (let most = may.little in omega (arith, most)) }

pub ruleset adding = (amid_start)
