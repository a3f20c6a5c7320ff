-- Laws of maps with kept epochs (this project's own).
use Rattle.std.specs.Prelude.{◌≡◌, ℤ, Bool, true, not, List, [], ◌∷◌, Some, None, unwrap_or, int_lt, IsTrue, IfSome}
use Rattle.std.specs.List.{list_all}
use Rattle.std.specs.Option.{option_map}
use Rattle.std.specs.declared.cmp.Ordering.{Ordering}
use Rattle.kr_defs.specs.KeptMaps.{KeptMaps, map_at, marked, reverted, forgotten, inserted, removed}

-- what may be done to the maps
pub data Action (K V : Type 0) : Type 0 where
  Insert : K → V → Action K V
  Remove : K → Action K V
  Mark : ℤ → Action K V
  Revert : ℤ → Action K V
  Forget : ℤ → Action K V

-- each is done above the epoch, or keeps it
abbrev pub keeps : {K V : Type 0} → ℤ → Action K V → Bool
keeps epoch (Insert key value) = true
keeps epoch (Remove key) = true
keeps epoch (Mark other) = int_lt epoch other
keeps epoch (Revert other) = not (int_lt other epoch)
keeps epoch (Forget other) = not (int_lt epoch other)

module _ {K V : Type 0} (order : K → K → Ordering) where
  -- a revert to an epoch that isn't kept changes nothing
  abbrev pub after_action : KeptMaps K V → Action K V → KeptMaps K V
  after_action maps (Insert key value) = inserted order maps key value
  after_action maps (Remove key) = removed order maps key
  after_action maps (Mark epoch) = marked maps epoch
  after_action maps (Revert epoch) = unwrap_or (reverted maps epoch) maps
  after_action maps (Forget epoch) = forgotten maps epoch

  -- one after the other
  abbrev pub after_actions : KeptMaps K V → List (Action K V) → KeptMaps K V
  after_actions maps [] = maps
  after_actions maps (action ∷ actions) = after_actions (after_action maps action) actions

  -- Whatever was done above an epoch, a revert to it makes the map that is kept there the present one.
  abbrev pub RevertsRestore : KeptMaps K V → Type 0
  RevertsRestore maps =
      (epoch : ℤ) (map : List (K × V)) (actions : List (Action K V)) →
      map_at maps epoch ≡ Some map → IsTrue (list_all (keeps epoch) actions) →
      option_map (λ (back : KeptMaps K V). back.present) (reverted (after_actions maps actions) epoch) ≡ Some map

module _ {K V : Type 0} where
  -- the epochs that pass are kept as before, the others not at all
  pub record KeepsThose (passes : ℤ → Bool) (before after : KeptMaps K V) : Type 0 where
    pub stay : (epoch : ℤ) → passes epoch ≡ true → map_at after epoch ≡ map_at before epoch
    pub gone : (epoch : ℤ) → IsTrue (not (passes epoch)) → map_at after epoch ≡ None

  -- Forgetting below an epoch leaves the maps that are kept from it on, and the present one.
  pub record ForgetsBelow (maps : KeptMaps K V) (epoch : ℤ) : Type 0 where
    pub kept : KeepsThose (λ other. not (int_lt other epoch)) maps (forgotten maps epoch)
    pub present : (forgotten maps epoch).present ≡ maps.present

  -- A revert to an epoch leaves the maps that are kept up to it.
  abbrev pub RevertsAbove : KeptMaps K V → ℤ → Type 0
  RevertsAbove maps epoch = IfSome (reverted maps epoch) (KeepsThose (λ other. not (int_lt epoch other)) maps)
