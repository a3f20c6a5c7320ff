-- Settings, numbers and lists in text, computed.
use Rattle.std.proofs.Common.{◌≡◌, refl, true, false, List, [], ◌∷◌, ℕ}
use Rattle.std.specs.Prelude.{pos, codes, Some, None}
use Rattle.kr_defs.specs.Image.{Image, empty}
use Rattle.kr_defs.specs.Settings.{minimum_of, is_unclean, read_minimum, is_setting_key, minimum_key, unclean_key, is_broker_name}
use Rattle.kr_defs.specs.Texts.{parts, joined, decimal_up_to}

-- the topic's own value, and the default of all brokers
abbrev set : List ℕ → List ℕ → List ℕ → Image
set key own default = record empty {
  configs =
      (record { kind = pos 2; name = codes "t"; key = key }, own)
      ∷ (record { kind = pos 4; name = []; key = key }, default)
      ∷ [];
}

own_first : minimum_of (pos 1) (set minimum_key (codes "2") (codes "3")) (codes "t") ≡ pos 2
own_first = refl

default_next : minimum_of (pos 1) (set minimum_key (codes "02") (codes "3")) (codes "t") ≡ pos 3
default_next = refl

other_topic : minimum_of (pos 1) (set minimum_key (codes "2") (codes "3")) (codes "u") ≡ pos 3
other_topic = refl

options_last : minimum_of (pos 1) (set minimum_key (codes "0") (codes "2147483648")) (codes "t") ≡ pos 1
options_last = refl

greatest : read_minimum (codes "2147483647") ≡ Some (pos 2147483647)
greatest = refl

signed : read_minimum (codes "+2") ≡ None
signed = refl

nothing : read_minimum [] ≡ None
nothing = refl

unclean_off : is_unclean (set unclean_key (codes "false") (codes "true")) (codes "t") ≡ false
unclean_off = refl

unclean_on : is_unclean (set unclean_key (codes "True") (codes "true")) (codes "t") ≡ true
unclean_on = refl

unclean_unset : is_unclean empty (codes "t") ≡ false
unclean_unset = refl

all_brokers : is_broker_name [] ≡ true
all_brokers = refl

one_broker : is_broker_name (codes "0") ≡ true
one_broker = refl

leading_zero : is_broker_name (codes "01") ≡ false
leading_zero = refl

slash : is_setting_key (codes "a/b") ≡ false
slash = refl

zero : decimal_up_to 9 (codes "0") ≡ Some 0
zero = refl

no_parts : parts [] ≡ []
no_parts = refl

two_parts : parts (codes "a,") ≡ codes "a" ∷ [] ∷ []
two_parts = refl

put_together : joined (codes "a" ∷ codes "b" ∷ []) ≡ codes "a,b"
put_together = refl
