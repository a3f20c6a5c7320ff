-- What is kept while a tape is read shows what the laws speak of.
use Rattle.std.proofs.Common.{◌≡◌, ◌∙◌, sym, ℕ, zero, suc, ◌+◌, ◌<◌, Bool, true, false, cond, List, [], ◌∷◌, refl, ap, subst, map, reverse, arith}
use Rattle.std.proofs.lemmas.Bool.{eqb-true}
use Rattle.std.proofs.lemmas.Bool.Decides.{nat_tests}
use Rattle.std.proofs.lemmas.List.{get_or-set_same, get_or-set_other, length-replicate}
use Rattle.std.specs.Prelude.{length, nat_eq, replicate, slice_set}
use Rattle.law_quorum.specs.Batches.{Batch, StoredImage, behind}
use Rattle.law_quorum.specs.History.{Leadership, Point}
use Rattle.law_link.specs.Links.{Link, Web, no_web}
use Rattle.law_tape.specs.Rules.{Side, StoreState, TakenLeadership, TapeState, new_side, side_of, tape_begins}

-- the lists of what happened, the latest first
abbrev pub latest_first : Link → Link
latest_first l = record l { won = reverse l.won; calls = reverse l.calls; keeps = reverse l.keeps }

abbrev pub taken_of : Leadership → TakenLeadership
taken_of l = record { node = l.node; epoch = l.epoch; made = l.made; start = behind 0 l.start }

pub record StandsFor (p : Point) (t : StoreState) : Type 0 where
  pub revision : p.keys.revision ≡ t.revision
  pub end : p.keys.end ≡ t.end
  pub epoch : p.keys.epoch ≡ t.epoch
  pub leader : p.keys.leader ≡ t.leader
  pub image : p.keys.image ≡ t.image
  pub log : p.log ≡ t.log
  pub leaderships : map taken_of p.leaderships ≡ reverse t.taken

pub record Shows (w : Web) (s : TapeState) : Type 0 where
  pub store : StandsFor w.cluster.point s.store
  pub count : length s.sides ≡ 256
  pub node : (k : ℕ) → w.cluster.nodes k ≡ (side_of s.sides k).node
  pub link : (k : ℕ) → w.links k ≡ latest_first (side_of s.sides k).link

all_new : (n j : ℕ) → side_of (replicate n new_side) j ≡ new_side
all_new zero j = refl
all_new (suc n) zero = refl
all_new (suc n) (suc j) = all_new n j

pub nothing_shown : Shows no_web tape_begins
nothing_shown = record {
  store = record { revision = refl; end = refl; epoch = refl; leader = refl; image = refl; log = refl; leaderships = refl };
  count = length-replicate 256 new_side;
  node = λ k. ap (λ (x : Side). x.node) (sym (all_new 256 k));
  link = λ k. ap (λ (x : Side). latest_first x.link) (sym (all_new 256 k));
}

pub side_set : (sides : List Side) (k : ℕ) (side : Side) → k < length sides → (j : ℕ) → side_of (slice_set sides k side) j ≡ cond (nat_eq k j) side (side_of sides j)
side_set sides k side low j = by (nat_eq k j) refl
  where
    by : (t : Bool) → nat_eq k j ≡ t → side_of (slice_set sides k side) j ≡ cond t side (side_of sides j)
    by true e = subst (λ (i : ℕ). side_of (slice_set sides k side) i ≡ side) (eqb-true k j e) (get_or-set_same sides k side new_side low)
    by false e = get_or-set_other sides k j side new_side (λ same. absurd (grind (arith, nat_tests)))
