use Rattle.std.proofs.Common.{◌≡◌, ◌-◌, length, string_bytes, ap, ◌∙◌, arith, chars}
use Rattle.std.proofs.lemmas.Str.{IsUtf8-string_bytes}
use Rattle.elasticlunr_text.specs.Classes.{in_class}
use Rattle.elasticlunr_text.specs.Trimmed.{from_first}
use Rattle.elasticlunr_text.proofs.CutTextLemmas.{from_first-length, cut-place}
use Rattle.elasticlunr_text.proofs.lang.common.class.Class.cut_beginning.Goals as goal

pub overflow_sub-cut : goal.overflow_sub-cut
overflow_sub-cut c =
    let test = in_class c.args.self.now in
    let t = string_bytes c.args.token.now in
    let u = c.from_first-kept.result.now in
    let fits = from_first-length test t u (IsUtf8-string_bytes c.args.token.now) c.from_first-kept.utf8
    (c.from_first-kept.ensures ∙ ap (λ bs. from_first test (chars bs)) c.as_str.ensures.value) in
    omega (arith, fits, c.len.ensures, c.args.token.now.bytes.ok.0)

pub replace_range-requires-clause-end_boundary : goal.replace_range-requires-clause-end_boundary
replace_range-requires-clause-end_boundary c =
    let test = in_class c.args.self.now in
    let t = string_bytes c.args.token.now in
    let u = c.from_first-kept.result.now in
    (cut-place test t u (IsUtf8-string_bytes c.args.token.now) c.from_first-kept.utf8 _ (c.from_first-kept.ensures
    ∙ ap (λ bs. from_first test (chars bs)) c.as_str.ensures.value)
    (ap (λ n. n - length u) (c.len.ensures ∙ c.args.token.now.bytes.ok.0))).0

pub returns-then-cut-gt0 : goal.returns-then-cut-gt0
returns-then-cut-gt0 c =
    let test = in_class c.args.self.now in
    let t = string_bytes c.args.token.now in
    let u = c.from_first-kept.result.now in
    let same = c.from_first-kept.ensures ∙ ap (λ bs. from_first test (chars bs)) c.as_str.ensures.value in
    let place = cut-place test t u (IsUtf8-string_bytes c.args.token.now) c.from_first-kept.utf8 _ same
    (ap (λ n. n - length u) (c.len.ensures ∙ c.args.token.now.bytes.ok.0)) in
    let cut = rw c.unwrap.ensures at c.replace_range.ensures.bytes in
    ap chars (cut ∙ place.1) ∙ same

pub returns-else-cut-gt0 : goal.returns-else-cut-gt0
returns-else-cut-gt0 c =
    let test = in_class c.args.self.now in
    let t = string_bytes c.args.token.now in
    let u = c.from_first-kept.result.now in
    let same = c.from_first-kept.ensures ∙ ap (λ bs. from_first test (chars bs)) c.as_str.ensures.value in
    let none : 0 ≡ length t - length u = omega (arith, c.if-cut-gt0.false, c.len.ensures, c.args.token.now.bytes.ok.0)
    in
    let place = cut-place test t u (IsUtf8-string_bytes c.args.token.now) c.from_first-kept.utf8 0 same none in
    ap chars place.1 ∙ same
