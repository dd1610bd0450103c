-- The words behind the program's name (docs/SCRIPT.md). A number is in decimal digits, without a leading zero; the names
-- of the two devices are any words.
use Rattle.std.specs.Prelude.{ℕ, ◌≡◌, ◌<◌, ◌≤◌, ◌^◌, List, [], ◌∷◌, codes}
use Rattle.std.specs.Fmt.{decimal}
use Rattle.wb_geometry.specs.Geometry.{IsOrder, IsSlots, IsRam}
use Rattle.wb_tool.specs.declared.command.Numbers.{Numbers}
use Rattle.wb_tool.specs.declared.command.WorkloadNumbers.{WorkloadNumbers}
use Rattle.wb_tool.specs.declared.command.Command.{Command}
use Rattle.wb_tool.specs.declared.command.Command.TheVariants.{Format, Serve, Recover, Inspect, InspectSlot, Workload}

-- three words spell these numbers, which are in their ranges
pub record SpellNumbers (order slots ram : List ℕ) (numbers : Numbers) : Type 0 where
  pub order_is : order ≡ decimal numbers.order
  pub slots_are : slots ≡ decimal numbers.slots
  pub ram_is : ram ≡ decimal numbers.ram
  pub order_fits : IsOrder numbers.order
  pub slots_fit : IsSlots numbers.slots
  pub ram_fits : IsRam numbers.ram

-- `serve LOG BACKING`
pub record IsServe (words : List (List ℕ)) : Type 0 where
  pub log : List ℕ
  pub backing : List ℕ
  pub are : words ≡ codes "serve" ∷ log ∷ backing ∷ []

-- `recover LOG BACKING`
pub record IsRecover (words : List (List ℕ)) : Type 0 where
  pub log : List ℕ
  pub backing : List ℕ
  pub are : words ≡ codes "recover" ∷ log ∷ backing ∷ []

-- `inspect LOG BACKING`
pub record IsInspect (words : List (List ℕ)) : Type 0 where
  pub log : List ℕ
  pub backing : List ℕ
  pub are : words ≡ codes "inspect" ∷ log ∷ backing ∷ []

-- `inspect LOG BACKING SLOT`, with any number
pub record IsInspectSlot (slot : ℕ) (words : List (List ℕ)) : Type 0 where
  pub log : List ℕ
  pub backing : List ℕ
  pub number : List ℕ
  pub are : words ≡ codes "inspect" ∷ log ∷ backing ∷ number ∷ []
  pub spelled : number ≡ decimal slot
  pub fits : slot < 2 ^ 64

-- `format LOG BACKING ORDER SLOTS RAM`, with numbers in their ranges
pub record IsFormat (numbers : Numbers) (words : List (List ℕ)) : Type 0 where
  pub log : List ℕ
  pub backing : List ℕ
  pub order : List ℕ
  pub slots : List ℕ
  pub ram : List ℕ
  pub are : words ≡ codes "format" ∷ log ∷ backing ∷ order ∷ slots ∷ ram ∷ []
  pub spelled : SpellNumbers order slots ram numbers

-- two words spell the numbers of a workload: any seed, and one request for each client at least and 25,000 at most
pub record SpellWorkload (seed count : List ℕ) (numbers : WorkloadNumbers) : Type 0 where
  pub seed_is : seed ≡ decimal numbers.seed
  pub count_is : count ≡ decimal numbers.count
  pub seed_fits : numbers.seed < 2 ^ 64
  pub some : 1 ≤ numbers.count
  pub few : numbers.count ≤ 25000

-- `workload LOG BACKING SEED COUNT`, with numbers in their ranges
pub record IsWorkload (numbers : WorkloadNumbers) (words : List (List ℕ)) : Type 0 where
  pub log : List ℕ
  pub backing : List ℕ
  pub seed : List ℕ
  pub count : List ℕ
  pub are : words ≡ codes "workload" ∷ log ∷ backing ∷ seed ∷ count ∷ []
  pub spelled : SpellWorkload seed count numbers

-- the words are of the form of this command
abbrev pub IsForm : Command → List (List ℕ) → Type 0
IsForm (Format numbers) words = IsFormat numbers words
IsForm Serve words = IsServe words
IsForm Recover words = IsRecover words
IsForm Inspect words = IsInspect words
IsForm (InspectSlot slot) words = IsInspectSlot slot words
IsForm (Workload numbers) words = IsWorkload numbers words
