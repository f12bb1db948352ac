-- The bytes of amperes, phases, modules and pairs. Assumes nothing.
use Rattle.std.specs.Prelude.{ℕ, ◌^◌, ◌<◌, List, ◌++◌, take, drop, Option}
use Rattle.amount.specs.Counts.{fitted, amps}
use Rattle.amount.specs.Pairs.{both, pair_of}
use Rattle.amount.specs.Phases.{three}
use Rattle.amount.specs.Sets.{modules}
use Rattle.amount.specs.declared.amps.Amps.{Amps}
use Rattle.amount.specs.declared.modules.Modules.{Modules}
use Rattle.amount.specs.declared.pair.Pair.{Pair}
use Rattle.amount.specs.declared.phases.Phases.{Phases}
use Rattle.archive.specs.Codec.{exactly}
use Rattle.archive.specs.Numbers.{number_of, big_endian}
use Rattle.archive.specs.Widths.{joined}

-- a count of k bytes below a limit
abbrev pub count_decode : {T : Type 0} (k limit : ℕ) → ((n : ℕ) → n < limit → T) → List ℕ → Option T
count_decode k limit make bs = exactly k bs (fitted limit make (number_of bs))

abbrev pub amps_bytes : Amps → List ℕ
amps_bytes a = big_endian 2 a.value

abbrev pub amps_decode : List ℕ → Option Amps
amps_decode = count_decode 2 65536 amps

-- L1, L2, L3
abbrev pub phases_bytes : Phases → List ℕ
phases_bytes a = amps_bytes a.l1 ++ (amps_bytes a.l2 ++ amps_bytes a.l3)

abbrev pub phases_decode : List ℕ → Option Phases
phases_decode bs = exactly 6 bs (three (amps_decode (take 2 bs)) (amps_decode (take 2 (drop 2 bs))) (amps_decode (take 2 (drop 4 bs))))

abbrev pub modules_bytes : Modules → List ℕ
modules_bytes a = big_endian 8 a.names

abbrev pub modules_decode : List ℕ → Option Modules
modules_decode = count_decode 8 (2 ^ 64) modules

-- the left side's bytes, then the right's
abbrev pub pair_bytes : {L R : Type 0} → (L → List ℕ) → (R → List ℕ) → Pair L R → List ℕ
pair_bytes bl br p = bl p.left ++ br p.right

abbrev pub pair_decode : {L R : Type 0} → ℕ → ℕ → (List ℕ → Option L) → (List ℕ → Option R) → List ℕ → Option (Pair L R)
pair_decode wl wr dl dr bs = exactly (joined wl wr) bs (both pair_of (dl (take wl bs)) (dr (drop wl bs)))
