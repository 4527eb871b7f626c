-- A file that is found is short.
use Rattle.std.proofs.Common.{◌≡◌, ℕ, ◌≤◌, List, [], ◌∷◌, length, Option, Some, None, IfSome, option_copied, true, false, cond, bytes_eq, sym, subst, Bor}
use Rattle.plm_io.specs.declared.entries.Stored.{Stored}
use Rattle.plm_io.specs.Files.{file_of, AreShort}

pub short_found : (entries : List Stored) (name : List ℕ) → AreShort entries → IfSome (file_of entries name) (λ bytes. length bytes ≤ 67108864)
short_found [] name short = tt
short_found (entry ∷ entries) name short =
    elim (bytes_eq entry.name name) as (λ b. IfSome (cond b (Some entry.bytes) (file_of entries name)) (λ bytes. length bytes ≤ 67108864))
    [ true ↦ short.0 | false ↦ short_found entries name short.1 ]

pub short_result : (entries : List Stored) (name : List ℕ) (result : Option (Bor (List ℕ))) → AreShort entries → option_copied result ≡ file_of entries name
    → IfSome result (λ bytes. length bytes.now ≤ 67108864)
short_result entries name None short found = tt
short_result entries name (Some bytes) short found =
    let P : Option (List ℕ) → Type 0 = λ o. IfSome o (λ bytes. length bytes ≤ 67108864) in
    subst P (sym found) (short_found entries name short)
