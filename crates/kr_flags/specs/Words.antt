-- What the words of the command line say. This project's own, over clap's definition of the matches of a simple command.
use Rattle.std.specs.Prelude.{◌≡◌, ◌≤◌, ◌≤ℤ◌, ◌<◌, ◌⊎◌, ℕ, true, false, List, [], length, codes, Option, Some, None, is_some, option_and_then, option_map, pos}
use Rattle.clap.specs.Words.{App, IsPlainArg, Rule, fault_of, rule_of, first_of, first_value, found_of, matches_of, new_app, new_rule, takes, with_rule}
use Rattle.clap.specs.Simple.{on_top}
use Rattle.clap.specs.declared.builder.action.ArgAction.TheVariants.{Set}
use Rattle.clap.specs.declared.parser.matches.ArgMatches.{ArgMatches}
use Rattle.clap.specs.declared.builder.arg.Arg.{Arg}
use Rattle.clap.specs.Facts.{least_values}
use Rattle.kr_defs.specs.Texts.{decimal_up_to}
use Rattle.kr_flags.specs.declared.told.Settings.{Settings}

-- ---- the command

-- an option of this name that takes one value
abbrev pub optional : List ℕ → Rule
optional name = record (new_rule name) { long = Some name; action = Some Set; value_names = 1 }

abbrev pub mandatory : List ℕ → Rule
mandatory name = record (optional name) { required = true }

-- the words have no program's name before them
abbrev pub bare : App
bare = on_top (λ s. record s { no_binary_name = true; has_version = true }) (new_app (codes "kr_daemon"))

abbrev pub kr_daemon : App
kr_daemon =
    with_rule (with_rule (with_rule (with_rule (with_rule (with_rule bare
    (mandatory (codes "listen")))
    (mandatory (codes "node")))
    (mandatory (codes "cluster")))
    (mandatory (codes "salt")))
    (optional (codes "link")))
    (optional (codes "clients"))

-- the command takes the words, by clap's definition of that and of the errors at them
pub record AreTaken (words : List (List ℕ)) : Type 0 where
  pub taken : takes kr_daemon words ≡ true
  pub faultless : fault_of kr_daemon words ≡ []

-- the value that the words give the option of this name
abbrev pub value_given : List ℕ → List (List ℕ) → Option (List ℕ)
value_given name words = first_of name (matches_of kr_daemon words)

-- the number up to the greatest that the words give the option of this name, in decimal without sign or leading zero
abbrev pub number_of : ℕ → List ℕ → List (List ℕ) → Option ℕ
number_of greatest name words = option_and_then (decimal_up_to greatest) (value_given name words)

-- ---- what is answered

-- eight where there is no such option
abbrev pub SaysClients : List (List ℕ) → ℕ → Type 0
SaysClients words clients = ((value_given (codes "clients") words ≡ None) × (clients ≡ 8)) ⊎ ((number_of 63 (codes "clients") words ≡ Some clients) × (0 < clients))

pub record Says (words : List (List ℕ)) (settings : Settings) : Type 0 where
  pub listen : value_given (codes "listen") words ≡ Some settings.listen
  pub node : option_map pos (number_of 2147483647 (codes "node") words) ≡ Some settings.node
  pub cluster : value_given (codes "cluster") words ≡ Some settings.cluster
  pub short : length settings.cluster ≤ 255
  pub salt : number_of 18446744073709551615 (codes "salt") words ≡ Some settings.salt
  pub link : value_given (codes "link") words ≡ settings.link
  pub clients : SaysClients words settings.clients

-- the ranges of what is told
pub record AreInRange (settings : Settings) : Type 0 where
  pub node : pos 0 ≤ℤ settings.node
  pub cluster : length settings.cluster ≤ 255
  pub some : 0 < settings.clients
  pub most : settings.clients ≤ 63

-- why words are refused: the command doesn't take them, or a value is wrong
pub data AreWrong (words : List (List ℕ)) : Type 0 where
  untaken : takes kr_daemon words ≡ false → AreWrong words
  node : number_of 2147483647 (codes "node") words ≡ None → AreWrong words
  cluster : (text : List ℕ) → value_given (codes "cluster") words ≡ Some text → 255 < length text → AreWrong words
  salt : number_of 18446744073709551615 (codes "salt") words ≡ None → AreWrong words
  clients : (text : List ℕ) → value_given (codes "clients") words ≡ Some text → (number_of 63 (codes "clients") words ≡ None) ⊎ (number_of 63 (codes "clients") words ≡ Some 0) → AreWrong words

-- ---- what a parse gives

-- each option that is needed has a value
pub record HasNeeded (m : ArgMatches) : Type 0 where
  pub listen : is_some (first_value (found_of m) (codes "listen")) ≡ true
  pub node : is_some (first_value (found_of m) (codes "node")) ≡ true
  pub cluster : is_some (first_value (found_of m) (codes "cluster")) ≡ true
  pub salt : is_some (first_value (found_of m) (codes "salt")) ≡ true

-- an argument that is read by this rule, takes a value and has to do with no other
pub record IsOption (rule : Rule) (a : Arg) : Type 0 where
  pub same : rule_of a ≡ rule
  pub plain : IsPlainArg a
  pub local : a.global ≡ false
  pub action : a.action ≡ Some Set
  pub delim : a.val_delim ≡ None
  pub least : 1 ≤ least_values a
