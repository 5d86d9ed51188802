use Rattle.std.proofs.Common.{◌≡◌, true, not, string_bytes, sym, ap, ◌∙◌}
use Rattle.std.specs.Prelude.{◌&&◌}
use Rattle.elasticlunr_commands.specs.Fields.{all_differ, has_name}
use Rattle.elasticlunr_error.specs.Text.{bytes_of}
use Rattle.elasticlunr_piece_search.proofs.names.all_differ.Goals as goal

pub returns-then-is_among : goal.returns-then-is_among
returns-then-is_among c =
    let others = c.in-Some.others.now in
    let here : has_name (string_bytes c.in-Some.first.now) (bytes_of others) ≡ true =
    ap (λ n. has_name n (bytes_of others)) (sym c.as_str.ensures.value) ∙ sym c.is_among.ensures ∙ c.if-is_among.true in
    sym (c.names.invariant ∙ ap (λ v. all_differ (bytes_of v)) c.in-Some.ensures.cases.0
    ∙ ap (λ b. not b && all_differ (bytes_of others)) here)
