-- The workload: the script that a seed gives, of clients that each keep to a quarter of the sectors.
use Rattle.std.specs.Prelude.{ℕ, zero, suc, ◌+◌, ◌-◌, ◌*◌, ◌/◌, ◌%◌, ◌^◌, ◌≤◌, ◌==◌, min, map, List, if◌then◌else◌, false}
use Rattle.std.specs.Int.{w64, to_le_bytes}
use Rattle.std.specs.List.{range_with_len}
use Rattle.wb_script.specs.Content.{ScriptContent}
use Rattle.wb_script.specs.declared.request.Request.{Request}
use Rattle.wb_script.specs.declared.request.Request.TheVariants.{Write, Read, ReadSum, Flush, Defer, Tell, Hear}

-- how many clients there are
abbrev pub workload_clients : ℕ
workload_clients = 4

-- the state of a client's generator behind that of its last request
abbrev pub next_state : ℕ → ℕ
next_state state = (state * 6364136223846793005 + 1442695040888963407) % 2 ^ 64

-- its state behind so many of its requests
abbrev pub state_after : (seed client : ℕ) → ℕ → ℕ
state_after seed client zero = (4 * seed + client) % 2 ^ 64
state_after seed client (suc index) = next_state (state_after seed client index)

-- the sectors that a state draws in a client's quarter: so many, and the first of them
abbrev pub drawn_count : (quarter state : ℕ) → ℕ
drawn_count quarter state = min (1 + state / 2 ^ 33 % 64) quarter

abbrev pub drawn_sector : (quarter client state : ℕ) → ℕ
drawn_sector quarter client state = client * quarter + state / 2 ^ 33 / 64 % (quarter - drawn_count quarter state + 1)

-- the request of this index that a state draws: each 125th is a flush, and of the others those of even index are writes
abbrev pub drawn_request : (quarter client index state : ℕ) → Request
drawn_request quarter client index state =
    let sector = drawn_sector quarter client state in
    let count = drawn_count quarter state in
    if (index + 1) % 125 == 0 then Flush
    else if index % 2 == 0 then Write sector count (to_le_bytes w64 state) false
    else ReadSum sector count

-- so many requests of a client
abbrev pub drawn_requests : (seed count quarter client : ℕ) → List Request
drawn_requests seed count quarter client =
    map (λ index. drawn_request quarter client index (state_after seed client (index + 1))) (range_with_len 0 count)

-- the script of a seed, with so many requests of each client, over a region of so many sectors
abbrev pub workload : (seed count region : ℕ) → ScriptContent
workload seed count region = record {
  clients = workload_clients;
  sectors = region;
  requests = map (drawn_requests seed count (region / 4)) (range_with_len 0 workload_clients);
}

-- the request names no sector but of these, which are so many from this one on
abbrev pub KeepsTo : (first quarter : ℕ) → Request → Type 0
KeepsTo first quarter (Write sector count pattern fua) = (first ≤ sector) × (sector + count ≤ first + quarter)
KeepsTo first quarter (Read sector count) = (first ≤ sector) × (sector + count ≤ first + quarter)
KeepsTo first quarter (ReadSum sector count) = (first ≤ sector) × (sector + count ≤ first + quarter)
KeepsTo first quarter Flush = Unit {0}
KeepsTo first quarter Defer = Unit {0}
KeepsTo first quarter (Tell other) = Unit {0}
KeepsTo first quarter (Hear other) = Unit {0}
