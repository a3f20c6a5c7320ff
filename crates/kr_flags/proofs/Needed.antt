-- Each option that is needed has a value where a parse succeeds.
use Rattle.std.proofs.Common.{◌≡◌, true, false, ◌<◌, ℕ, List, [], ◌∷◌, map, codes, refl, ap, sym, subst, arith}
use Rattle.std.specs.Prelude.{is_some}
use Rattle.std.specs.List.{All, slice_index_or}
use Rattle.std.proofs.lemmas.List.Elements.{All-cons, All-nil}
use Rattle.clap.specs.Words.{AddsInTurn, AddsArg, IsParsedFrom, Rule, args_of, groups_of, first_value, found_of}
use Rattle.clap.specs.Built.{FitsChain, TakesValue}
use Rattle.clap.specs.declared.builder.arg.Arg.{Arg}
use Rattle.clap.specs.declared.builder.command.Command.{Command}
use Rattle.clap.specs.declared.builder.command.Command.TheViews.{out-Command}
use Rattle.clap.specs.declared.parser.matches.ArgMatches.{ArgMatches}
use Rattle.clap.proofs.CallerLemmas.{required_in_chain}
use Rattle.kr_flags.specs.Words.{HasNeeded, IsOption, mandatory, optional}
use Rattle.kr_flags.proofs.Chains.{are_distinct, distinct, fits, id_of, takes_value}

pub record IsBare (start : Command) : Type 0 where
  pub args : args_of start ≡ []
  pub groups : groups_of start ≡ []
  pub globals : (out-Command start).has_globals ≡ false
  pub negates : (out-Command start).subcommand_negates_reqs ≡ false

pub record Six (a b d e f g : Arg) : Type 0 where
  pub listen : IsOption (mandatory (codes "listen")) a
  pub node : IsOption (mandatory (codes "node")) b
  pub cluster : IsOption (mandatory (codes "cluster")) d
  pub salt : IsOption (mandatory (codes "salt")) e
  pub link : IsOption (optional (codes "link")) f
  pub clients : IsOption (optional (codes "clients")) g

abbrev all_of : (a b d e f g : Arg) → List Arg
all_of a b d e f g = a ∷ b ∷ d ∷ e ∷ f ∷ g ∷ []

abbrev six : List (List ℕ)
six = codes "listen" ∷ codes "node" ∷ codes "cluster" ∷ codes "salt" ∷ codes "link" ∷ codes "clients" ∷ []

id_by : (rule : Rule) (a : Arg) → IsOption rule a → id_of a ≡ rule.id
id_by rule a o = ap (λ (r : Rule). r.id) o.same

ids : (a b d e f g : Arg) → Six a b d e f g → map id_of (all_of a b d e f g) ≡ six
ids a b d e f g s = rw (
  id_by (mandatory (codes "listen")) a s.listen,
  id_by (mandatory (codes "node")) b s.node,
  id_by (mandatory (codes "cluster")) d s.cluster,
  id_by (mandatory (codes "salt")) e s.salt,
  id_by (optional (codes "link")) f s.link,
  id_by (optional (codes "clients")) g s.clients,
) refl

all_fit : (a b d e f g : Arg) → Six a b d e f g → All FitsChain (all_of a b d e f g)
all_fit a b d e f g s =
    All-cons FitsChain a (b ∷ d ∷ e ∷ f ∷ g ∷ []) (fits (mandatory (codes "listen")) a s.listen refl)
    (All-cons FitsChain b (d ∷ e ∷ f ∷ g ∷ []) (fits (mandatory (codes "node")) b s.node refl)
    (All-cons FitsChain d (e ∷ f ∷ g ∷ []) (fits (mandatory (codes "cluster")) d s.cluster refl)
    (All-cons FitsChain e (f ∷ g ∷ []) (fits (mandatory (codes "salt")) e s.salt refl)
    (All-cons FitsChain f (g ∷ []) (fits (optional (codes "link")) f s.link refl)
    (All-cons FitsChain g [] (fits (optional (codes "clients")) g s.clients refl)
    (All-nil FitsChain))))))

value_at : (start cmd : Command) (a b d e f g : Arg) → IsBare start → Six a b d e f g → AddsInTurn AddsArg start (all_of a b d e f g) cmd
    → (m : ArgMatches) → IsParsedFrom cmd m → (k : ℕ) → k < 6 → TakesValue (slice_index_or (all_of a b d e f g) k a)
    → is_some (first_value (found_of m) (id_of (slice_index_or (all_of a b d e f g) k a))) ≡ true
value_at start cmd a b d e f g bare s chain m parsed k lt takes =
    required_in_chain start cmd (all_of a b d e f g) k a m chain bare.args bare.groups bare.globals bare.negates (all_fit a b d e f g s)
    (distinct (all_of a b d e f g) (subst (λ l. are_distinct l ≡ true) (sym (ids a b d e f g s)) refl)) lt takes parsed

pub has_needed : (start cmd : Command) (a b d e f g : Arg) → IsBare start → Six a b d e f g → AddsInTurn AddsArg start (all_of a b d e f g) cmd
    → (m : ArgMatches) → IsParsedFrom cmd m → HasNeeded m
has_needed start cmd a b d e f g bare s chain m parsed = record {
  listen = subst (λ id. is_some (first_value (found_of m) id) ≡ true) (id_by (mandatory (codes "listen")) a s.listen) (value_at start cmd a b d e f g bare s chain m parsed 0 (omega arith) (takes_value (mandatory (codes "listen")) a s.listen refl));
  node = subst (λ id. is_some (first_value (found_of m) id) ≡ true) (id_by (mandatory (codes "node")) b s.node) (value_at start cmd a b d e f g bare s chain m parsed 1 (omega arith) (takes_value (mandatory (codes "node")) b s.node refl));
  cluster = subst (λ id. is_some (first_value (found_of m) id) ≡ true) (id_by (mandatory (codes "cluster")) d s.cluster) (value_at start cmd a b d e f g bare s chain m parsed 2 (omega arith) (takes_value (mandatory (codes "cluster")) d s.cluster refl));
  salt = subst (λ id. is_some (first_value (found_of m) id) ≡ true) (id_by (mandatory (codes "salt")) e s.salt) (value_at start cmd a b d e f g bare s chain m parsed 3 (omega arith) (takes_value (mandatory (codes "salt")) e s.salt refl));
}
