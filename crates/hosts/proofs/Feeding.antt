-- A loop that makes a call for each item of a list, and writes each answer where the item stands.
use Rattle.std.proofs.Common.{◌≡◌, ℕ, List, ◌++◌, map, take, drop, Result}
use Rattle.network.specs.declared.refusal.Refusal.{Refusal}
use Rattle.network.specs.Network.{Network}
use Rattle.network.specs.Run.{Feed, after}
use Rattle.hosts.specs.Feed.{answered}

module _ {S X : Type 0} (feed : Feed S) (pair : X → ℕ × ℕ) (note : X → Result ℕ Refusal → X) where
  -- After i items: what is left leads where the whole list, as it was, does.
  pub record Feeding (v₀ : Network S) (xs₀ : List X) (v : Network S) (xs : List X) (i : ℕ) : Type 0 where
    pub network : after feed v (map pair (drop i xs)) ≡ after feed v₀ (map pair xs₀)
    pub answers : take i xs ++ answered feed pair note v (drop i xs) ≡ answered feed pair note v₀ xs₀
