-- The hardware permissions of a capability in letters, one a bit (UCAM-CL-TR-987, architectural permissions).
use Rattle.std.specs.Prelude.{ℕ, ◌==◌, if◌then◌else◌, List, ◌++◌, codes}
use Rattle.std.specs.Int.{bit_at}

-- a permission's letter, or `-` where the capability lacks it
unfoldable pub letter : List ℕ → ℕ → ℕ → List ℕ
letter name bit perms = if bit_at perms bit == 1 then name else codes "-"

-- Global, Execute, Load (R), Store (W), Load_Capability (c), Store_Capability (C), Store_Local_Capability (L), Seal, CInvoke, Unseal,
-- Access_System_Registers (S), Set_CID (d)
unfoldable pub permission_letters : ℕ → List ℕ
permission_letters perms =
    letter (codes "G") 0 perms ++ letter (codes "X") 1 perms ++ letter (codes "R") 2 perms ++ letter (codes "W") 3 perms
    ++ letter (codes "c") 4 perms ++ letter (codes "C") 5 perms ++ letter (codes "L") 6 perms ++ letter (codes "s") 7 perms
    ++ letter (codes "i") 8 perms ++ letter (codes "u") 9 perms ++ letter (codes "S") 10 perms ++ letter (codes "d") 11 perms
