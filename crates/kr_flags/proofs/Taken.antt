-- By clap's definitions a simple command takes the words at which it has no error.
use Rattle.std.proofs.Common.{◌≡◌, ◌∙◌, ◌≤◌, ◌==◌, ◌&&◌, ◌||◌, ◌⊎◌, ℕ, zero, suc, Bool, true, false, not, cond, nat_le, nat_lt, List, [], ◌∷◌, length, drop, min, is_some, Option, Some, None, refl, sym, ap, inl, inr, ⊎_elim, arith}
use Rattle.std.specs.Prelude.{encode_utf8, slice_get}
use Rattle.std.specs.Option.{option_map_or}
use Rattle.std.specs.List.{list_all, list_any}
use Rattle.std.specs.Str.{bytes_eq, chars}
use Rattle.std.proofs.lemmas.Bool.{eqb-true, le-leb, ltb-false}
use Rattle.clap.specs.Lexer.{long_of, short_of}
use Rattle.clap.specs.Facts.{explicit_source, parser_of_value, unwrap_or_range}
use Rattle.clap.specs.ValueTests.{accepts}
use Rattle.clap.specs.Kinds.{Kinds, check_kinds, or_else, range_kinds, value_kinds}
use Rattle.clap.specs.Walk.{Held, Names, Row, Rule, Step, Text, Waiting, Walk, action_of, arg_by_id, arg_by_index, arg_by_long, arg_by_short, attached_value, finished, has_row, is_pending, most_values, nothing_held, reacted, settled, subcommand_met, takes_several, takes_values, values_or_missing, walk, walk_from, walked, word_met}
use Rattle.clap.specs.Simple.{App, Shape, argument_words, built, is_simple}
use Rattle.clap.specs.Takes.{action_passes, built_takes, bundle_step_passes, count_passes, default_passes, flag_word_passes, flags_pass, is_given, is_valid, level_passes, long_passes, option_passes, other_passes, positional_passes, react_passes, settle_passes, short_passes, step_passes, takes, turn_passes, use_passes, value_passes, values_pass, walk_passes, word_passes}
use Rattle.clap.specs.Faults.{action_fault, built_fault, bundle_step_fault, check_fault, count_fault, defaults_fault, fault_of, flag_word_fault, flags_fault, level_fault, long_fault, option_fault, other_fault, positional_fault, react_fault, settle_fault, short_fault, step_fault, stray_fault, turn_fault, use_fault, values_fault, walk_fault, word_fault}
use Rattle.clap.specs.declared.builder.action.ArgAction.{ArgAction}
use Rattle.clap.specs.declared.builder.action.ArgAction.TheVariants as action
use Rattle.clap.specs.declared.error.kind.ErrorKind.{ErrorKind}
use Rattle.clap.specs.declared.error.kind.ErrorKind.TheVariants.{TooFewValues, TooManyValues, WrongNumberOfValues}
use Rattle.clap.proofs.FaultLemmas.{leaf_fault}
use Rattle.clap.proofs.TakesLemmas.{leaf_takes}

-- ---- tests, and the errors where they fail

neither : (a b : Kinds) → or_else a b ≡ [] → (a ≡ []) × (b ≡ [])
neither [] b e = (refl, e)
neither (k ∷ ks) b e = cc

yes : (a b : Bool) → a ≡ true → b ≡ true → (a && b) ≡ true
yes true b h e = e
yes false b h e = cc

unless : (b : Bool) (k : ErrorKind) (ks next : Kinds) → cond b (k ∷ ks) next ≡ [] → (b ≡ false) × (next ≡ [])
unless true k ks next e = cc
unless false k ks next e = (refl, e)

only_if : (b : Bool) (k : ErrorKind) → cond b [] (k ∷ []) ≡ [] → b ≡ true
only_if true k e = refl
only_if false k e = cc

choice : (b : Bool) (x y : Kinds) (p q : Bool) → (x ≡ [] → p ≡ true) → (y ≡ [] → q ≡ true) → cond b x y ≡ [] → cond b p q ≡ true
choice true x y p q left right e = left e
choice false x y p q left right e = right e

past : (b : Bool) (x : Kinds) (q : Bool) → (x ≡ [] → q ≡ true) → cond b [] x ≡ [] → (b || q) ≡ true
past true x q next e = refl
past false x q next e = next e

allowed : (met again : Bool) (k : ErrorKind) (ks : Kinds) → cond (met && not again) (k ∷ ks) [] ≡ [] → (not met || again) ≡ true
allowed true true k ks e = refl
allowed true false k ks e = cc
allowed false again k ks e = refl

none_any : {A : Type 0} (p q : A → Bool) → ((a : A) → p a ≡ false → q a ≡ true) → (xs : List A) → list_any p xs ≡ false → list_all q xs ≡ true
none_any p q each [] e = refl
none_any p q each (x ∷ xs) e = go (p x) (q x) (each x) (none_any p q each xs) e
  where
    go : (b d : Bool) → (b ≡ false → d ≡ true) → (list_any p xs ≡ false → list_all q xs ≡ true) → (b || list_any p xs) ≡ false → (d && list_all q xs) ≡ true
    go true d here others e = cc
    go false d here others e = yes d _ (here refl) (others e)

-- where there is one, no error at it is its pass
if_there : {A : Type 0} (f : A → Kinds) (g : A → Bool) (o : Option A) → ((a : A) → f a ≡ [] → g a ≡ true) → option_map_or f o [] ≡ [] → option_map_or g o true ≡ true
if_there f g None each e = refl
if_there f g (Some a) each e = each a e

-- ---- one use of an argument

a_value : (a : Rule) (text : Text) → value_kinds a.ignore_case (parser_of_value a.parser) text ≡ [] → value_passes a text ≡ true
a_value a text e = only_if (accepts a.ignore_case (parser_of_value a.parser) text) _ e

all_values : (a : Rule) (vs : List Text) → values_fault a vs ≡ [] → values_pass a vs ≡ true
all_values a [] e = refl
all_values a (v ∷ vs) e =
    let parts = neither _ _ e in
    yes _ _ (a_value a v parts.0) (all_values a vs parts.1)

in_range : (least most n : ℕ) → range_kinds least most n ≡ [] → (nat_le least n ≡ true) × (nat_le n most ≡ true)
in_range least most n e = go (least == most) refl (unless (nat_lt 0 least && n == 0) _ _ _ e).1
  where
    go : (b : Bool) → (least == most) ≡ b → cond b (cond (least == n) [] (WrongNumberOfValues ∷ [])) (cond (nat_lt n least) (TooFewValues ∷ []) (cond (nat_lt most n) (TooManyValues ∷ []) [])) ≡ []
        → (nat_le least n ≡ true) × (nat_le n most ≡ true)
    go true is e =
        let all = eqb-true least most is in
        let here = eqb-true least n (only_if (least == n) _ e) in
        (le-leb least n (omega arith), le-leb n most (omega arith))
    go false is e =
        let few = unless (nat_lt n least) _ _ _ e in
        let many = unless (nat_lt most n) _ _ _ few.1 in
        (le-leb least n (ltb-false n least few.0), le-leb n most (ltb-false most n many.0))

a_count : (a : Rule) (vs : List Text) (rows : List Row) → count_fault a vs rows ≡ [] → count_passes a vs rows ≡ true
a_count a [] rows e = a_value a _ e
a_count a (v ∷ vs) rows e = all_values a (v ∷ vs) e

a_set : (again : Bool) (a : Rule) (vs : List Text) (rows : List Row) → action_fault action.Set again a vs rows ≡ [] → action_passes action.Set again a vs rows ≡ true
a_set again a vs rows e =
    let parts = neither _ _ e in
    yes _ _ (allowed (has_row a.id rows) again _ _ parts.0) (all_values a vs parts.1)

an_action : (x : ArgAction) (again : Bool) (a : Rule) (vs : List Text) (rows : List Row) → action_fault x again a vs rows ≡ [] → action_passes x again a vs rows ≡ true
an_action action.Set again a vs rows e = a_set again a vs rows e
an_action action.SetTrue again a vs rows e = a_set again a vs rows e
an_action action.SetFalse again a vs rows e = a_set again a vs rows e
an_action action.Append again a vs rows e = all_values a vs e
an_action action.Count again a vs rows e = a_count a vs rows e
an_action action.Help again a vs rows e = cc
an_action action.HelpShort again a vs rows e = cc
an_action action.HelpLong again a vs rows e = cc
an_action action.Version again a vs rows e = cc

a_use : (again : Bool) (a : Rule) (vs : List Text) (rows : List Row) → use_fault again a vs rows ≡ [] → use_passes again a vs rows ≡ true
a_use again a vs rows e =
    let parts = neither _ _ e in
    let range = in_range (unwrap_or_range a.range).start_inclusive (most_values a) (length vs) parts.0 in
    yes _ _ range.0 (yes _ _ range.1 (an_action (action_of a) again a (values_or_missing a vs) rows parts.1))

-- ---- a word

module _ (c : List Rule) (again : Bool) where
  settles : (h : Held) → settle_fault c again h ≡ [] → settle_passes c again h ≡ true
  settles h e = if_there _ _ h.pending (λ p. if_there _ _ (arg_by_id c p.0) (λ a. a_use again a p.1 h.rows)) e

  reacts : (a : Rule) (vs : List Text) (h : Held) → react_fault c again a vs h ≡ [] → react_passes c again a vs h ≡ true
  reacts a vs h e =
      let parts = neither _ _ e in
      yes _ _ (settles h parts.0) (a_use again a vs (settled c h).rows parts.1)

  an_option : (a : Rule) (v : Option Text) (h : Held) → option_fault c again a v h ≡ [] → option_passes c again a v h ≡ true
  an_option a (Some v) h e = reacts a (v ∷ []) h e
  an_option a None h e = settles h e

  a_long : (found : Option Rule) (v : Option Text) (h : Held) → long_fault c again found v h ≡ [] → long_passes c again found v h ≡ true
  a_long None v h e = cc
  a_long (Some a) v h e = choice (takes_values a) _ _ _ _ (an_option a v h) (flag v) e
    where
      flag : (v : Option Text) → cond (is_some v) (TooManyValues ∷ []) (react_fault c again a [] h) ≡ [] → (not (is_some v) && react_passes c again a [] h) ≡ true
      flag None e = reacts a [] h e
      flag (Some v) e = cc

  a_short : (found : Option Rule) (rest : Text) (h : Held) (f : Held → Kinds) (g : Held → Bool) → ((h : Held) → f h ≡ [] → g h ≡ true)
      → short_fault c again found rest h f ≡ [] → short_passes c again found rest h g ≡ true
  a_short None rest h f g next e = cc
  a_short (Some a) rest h f g next e = choice (takes_values a) _ _ _ _ (an_option a (attached_value rest) h)
      (λ e. let parts = neither _ _ e in yes _ _ (reacts a [] h parts.0) (next (reacted c a [] h) parts.1)) e

  a_flag : (x : Option ℕ) (flags : Text) (skip : ℕ) (h : Held) (f : Text → ℕ → Held → Kinds) (g : Text → ℕ → Held → Bool)
      → ((t : Text) (n : ℕ) (h : Held) → f t n h ≡ [] → g t n h ≡ true)
      → bundle_step_fault c again x flags skip h f ≡ [] → bundle_step_passes c again x flags skip h g ≡ true
  a_flag None flags skip h f g next e = refl
  a_flag (Some x) flags zero h f g next e =
      let rest = drop (length (encode_utf8 x)) flags in
      a_short (arg_by_short c x) rest h (f rest 0) (g rest 0) (next rest 0) e
  a_flag (Some x) flags (suc skip) h f g next e = next (drop (length (encode_utf8 x)) flags) skip h e

  all_flags : (k : ℕ) (flags : Text) (skip : ℕ) (h : Held) → flags_fault c again k flags skip h ≡ [] → flags_pass c again k flags skip h ≡ true
  unfolding flags_fault flags_pass
  all_flags zero flags skip h e = refl
  all_flags (suc k) flags skip h e =
      a_flag (slice_get (chars flags) 0) flags skip h (flags_fault c again k) (flags_pass c again k) (all_flags k) e

  a_flag_word : (long : Option (Text × Option Text)) (word : Text) (h : Held) → flag_word_fault c again long word h ≡ [] → flag_word_passes c again long word h ≡ true
  a_flag_word (Some p) word h e = a_long (arg_by_long c p.0) p.1 h e
  a_flag_word None word h e = if_there _ _ (short_of word) (λ flags. all_flags (length flags) flags h.skip (record h { skip = 0 })) e

  a_positional : (a : Rule) (h : Held) → positional_fault c again a h ≡ [] → positional_passes c again a h ≡ true
  a_positional a h e = past (is_pending a h.pending && takes_several a) _ _ (settles h) e

-- ---- a command

module _ (s : Shape) where
  another : (name : Option Text) (word : Text) (h : Held) → other_fault s name word h ≡ [] → other_passes s name word h ≡ true
  another (Some name) word h e = allowed (bytes_eq name _) s.disable_help_subcommand _ _ e
  another None word h e = past (bytes_eq word (45 ∷ 45 ∷ [])) _ _ (a_flag_word s.rules s.args_override_self (long_of word) word h) e

  strays : (leaf : Bool) → stray_fault (record s { is_leaf = leaf }) ≡ [] → ⊥
  strays true e = cc
  strays false e = cc

  a_step : (position : ℕ) (h : Held) (step : Step) → step_fault s position h step ≡ [] → step_passes s position h step ≡ true
  a_step position h Step.value e = go (arg_by_index s.rules position) e
    where
      go : (o : Option Rule) → option_map_or (λ a. positional_fault s.rules s.args_override_self a h) o (stray_fault s) ≡ []
          → option_map_or (λ a. positional_passes s.rules s.args_override_self a h) o false ≡ true
      go None e = absurd (strays s.is_leaf e)
      go (Some a) e = a_positional s.rules s.args_override_self a h e
  a_step position h _ e = refl

  a_turn : (names : Names) (w : Walk) (word : Text) → turn_fault s names w word ≡ [] → turn_passes s names w word ≡ true
  a_turn names w word e =
      let met = word_met s.rules names w.is_trailing w.waiting w.position word w.held in
      past (is_some w.stopped) _ _ (λ e.
      let parts = neither _ _ e in
      yes _ _ (past w.is_trailing _ _ (another (subcommand_met names w.waiting word) word w.held) parts.0) (a_step w.position met.0 met.1 parts.1)) e

  a_walk : (names : Names) (w : Walk) (words : List Text) → walk_fault s names w words ≡ [] → walk_passes s names w words ≡ true
  unfolding walk_fault walk_passes
  a_walk names w [] e = refl
  a_walk names w (word ∷ rest) e =
      let parts = neither _ _ e in
      yes _ _ (a_turn names w word parts.0) (a_walk names (walked s.rules names w word) rest parts.1)

  valid : (rows : List Row) → list_all (λ a. a.is_free) s.rules ≡ true → check_fault s rows false ≡ [] → is_valid s rows false ≡ true
  valid rows free e =
      let help = unless (s.arg_required_else_help && not (list_any (λ (r : Row). explicit_source r.source) rows)) _ _ _ e in
      let subcommand = unless s.subcommand_required _ _ _ help.1 in
      let argument = unless _ _ _ _ subcommand.1 in
      yes _ _ (asked s.arg_required_else_help _ help.0)
      (yes _ _ (negated s.subcommand_required subcommand.0)
      (yes _ _ free (needed s.subcommand_negates_reqs rows argument.0)))
    where
      asked : (wanted some : Bool) → (wanted && not some) ≡ false → (not wanted || (false || some)) ≡ true
      asked true true e = refl
      asked true false e = cc
      asked false some e = refl

      negated : (b : Bool) → b ≡ false → (not b || false) ≡ true
      negated true e = cc
      negated false e = refl

      has : (a b : Bool) → (a && not b) ≡ false → (not a || b) ≡ true
      has true true e = refl
      has true false e = cc
      has false b e = refl

      needed : (b : Bool) (rows : List Row) → (not (b && false) && list_any (λ (a : Rule). a.required && not (is_given a.id rows)) s.rules) ≡ false
          → ((b && false) || list_all (λ (a : Rule). not a.required || is_given a.id rows) s.rules) ≡ true
      needed true rows e = none_any _ _ (λ a. has a.required (is_given a.id rows)) s.rules e
      needed false rows e = none_any _ _ (λ a. has a.required (is_given a.id rows)) s.rules e

  a_level : (names : Names) (h : Held) (words : List Text) → list_all default_passes s.rules ≡ true → list_all (λ a. a.is_free) s.rules ≡ true
      → level_fault s names h words false [] ≡ [] → level_passes s names h words false ≡ true
  a_level names h words defaults free e =
      let end = (walk s.rules names h words).held in
      let walks = neither (walk_fault s names (walk_from h) words) _ e in
      let settled = neither (settle_fault s.rules s.args_override_self end) _ walks.1 in
      let rest = neither (defaults_fault _ s.rules) _ settled.1 in
      yes _ _ (a_walk names (walk_from h) words walks.0)
      (yes _ _ (settles s.rules s.args_override_self end settled.0) (yes _ _ defaults (valid (finished s.rules end) free rest.1)))

-- a command without subcommands, of which no argument has a default or a rule on another
pub taken : (app : App) (words : List Text) → is_simple app ≡ true → (built app).subs ≡ [] → list_all default_passes (built app).top.rules ≡ true
    → list_all (λ a. a.is_free) (built app).top.rules ≡ true → fault_of app words ≡ [] → takes app words ≡ true
taken app words simple leaf defaults free e =
    yes _ _ simple (leaf_takes (built app) nothing_held (argument_words app words) leaf
    (a_level (built app).top [] nothing_held (argument_words app words) defaults free
    (sym (leaf_fault (built app) nothing_held (argument_words app words) leaf) ∙ e)))
