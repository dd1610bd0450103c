-- What contracts see of a script.
use Rattle.std.specs.Prelude.{ℕ, List}
use Rattle.wb_script.specs.declared.request.Request.{Request}

-- the number of clients, the sectors that it was parsed for, and the requests of each client in the order of lines
pub record ScriptContent : Type 0 where
  pub clients : ℕ
  pub sectors : ℕ
  pub requests : List (List Request)
