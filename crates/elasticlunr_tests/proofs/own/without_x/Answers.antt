use Rattle.std.specs.Prelude.{ℕ, List, ◌++◌, None, Some, codes, if◌then◌else◌}
use Rattle.std.specs.Str.{bytes_eq}
use Rattle.elasticlunr_tests.proofs.Strings.{left_by_bytes}
use Rattle.elasticlunr_tests.proofs.own.without_x.Goals as goal

pub returns : goal.returns
returns c = left_by_bytes (λ (bytes : List ℕ). (if bytes_eq bytes (codes "x") then None else Some (bytes ++ codes "!")))
    c.args.token c.marked.result c.marked.ensures
