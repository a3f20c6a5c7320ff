-- What one election of all that is planned leaves (this project's own).
use Rattle.std.specs.Prelude.{◌≡◌, ℕ, ℤ, pos, true, false, List, length, All, IsSomeAnd}
use Rattle.std.specs.Map.{keys_of}
use Rattle.std.specs.Ordering.{is_eq}
use Rattle.kr_defs.specs.declared.basis.Basis.{Basis}
use Rattle.kr_defs.specs.declared.options.Options.{Options}
use Rattle.kr_defs.specs.Image.{Image, IsValid}
use Rattle.kr_defs.specs.Map.{get, partition_order}
use Rattle.kr_defs.specs.Walk.{Walked}
use Rattle.kr_calls.specs.declared.calls.Reply.{Reply}
use Rattle.kr_calls.specs.declared.calls.Reply.TheVariants as replies
use Rattle.kr_calls.specs.declared.calls.Request.TheVariants as requests
use Rattle.kr_calls.specs.Decide.{Decision, decide}
use Rattle.kr_balance.specs.Plan.{imbalanced, is_above_percentage, plan, planned}
use Rattle.law_balance.specs.Election.{preferred_election}
use Rattle.law_balance.specs.GivingBack.{GoesBack}

-- the preferred leader that the partition had leads it, and is the first of its replicas still
abbrev pub IsBack : Image → Walked → Type 0
IsBack after w = IsSomeAnd (get partition_order after.partitions w.key) (GoesBack w.partition)

-- the key is that of none of these
abbrev pub IsOther : List Walked → ℕ × ℤ → Type 0
IsOther ws key = All (λ (w : Walked). is_eq (partition_order key w.key) ≡ false) ws

pub record Balances (image after : Image) (percent : ℕ) : Type 0 where
  -- every planned partition is led by its first replica
  pub back : All (IsBack after) (planned image percent)
  -- of no broker that was above is a partition imbalanced
  pub none_imbalanced : (broker : ℤ) → is_above_percentage image percent broker ≡ true → imbalanced after broker ≡ 0
  -- all else is as before
  pub brokers : after.brokers ≡ image.brokers
  pub topics : after.topics ≡ image.topics
  pub configs : after.configs ≡ image.configs
  pub features : after.features ≡ image.features
  pub keys : keys_of after.partitions ≡ keys_of image.partitions
  pub others : (key : ℕ × ℤ) → IsOther (planned image percent) key → get partition_order after.partitions key ≡ get partition_order image.partitions key

-- every entry of the reply is 0, and so is the whole
abbrev pub IsWithoutErrors : Reply → Type 0
IsWithoutErrors (replies.ElectLeaders reply) = (reply.error ≡ pos 0) × All (λ t. All (λ p. p.error ≡ pos 0) t.partitions) reply.results
IsWithoutErrors other = ⊥

pub record IsRound (image : Image) (percent : ℕ) (d : Decision) : Type 0 where
  pub balances : Balances image d.image percent
  pub answers : IsWithoutErrors d.reply
  -- one for each partition that is planned
  pub records : length d.records ≡ length (plan image percent)

-- On a valid image the request for what is planned balances it.
abbrev pub RoundsBalance : Type 0
RoundsBalance =
    (options : Options) (basis : Basis) (image : Image) (place : ℤ) (percent : ℕ) → IsValid image →
    IsRound image percent (decide options image basis place (requests.ElectLeaders (preferred_election (plan image percent))))
