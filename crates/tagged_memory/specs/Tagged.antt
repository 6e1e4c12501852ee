-- The addresses that an iterator over tagged granules has left.
use Rattle.std.specs.Prelude.{ℕ, ◌+◌, ◌-◌, ◌*◌, Bool, if◌then◌else◌, List, [], ◌∷◌, take, drop}
use Rattle.base.specs.Ram.{ram_base}
use Rattle.tagged_memory.specs.declared.tagged.Tagged.{Tagged}
use Rattle.tag_planes.specs.Planes.{tags_of}

-- the addresses of the granules whose truth value is true, in order, the first granule at an address
abbrev pub addresses_of : ℕ → List Bool → List ℕ
addresses_of address [] = []
addresses_of address (tag ∷ tags) = if tag then address ∷ addresses_of (address + 16) tags else addresses_of (address + 16) tags

abbrev pub tagged_rest : Tagged → List ℕ
tagged_rest it = addresses_of (ram_base + 16 * it.next) (take (it.end - it.next) (drop it.next (tags_of it.planes.now)))
