use Rattle.std.proofs.Common.{ℕ, ◌≡◌, ◌-◌, ◌∙◌, ap, subst, arith, string_bytes, length, ◌++◌}
use Rattle.std.specs.String.Boundary.{IsSplitPoint}
use Rattle.std.proofs.lemmas.Str.{IsUtf8-string_bytes}
use Rattle.elasticlunr_text.proofs.EndingLemmas.{suffix_place, suffix_boundary, replaced}
use Rattle.elasticlunr_text.proofs.lang.en.endings.replace_suffix.Goals as goal

pub overflow_sub-len : goal.overflow_sub-len
overflow_sub-len c =
    let w = c.args.word.now in
    let p = suffix_place (string_bytes w) c.requires.ends.0 c.args.suffix.now (IsUtf8-string_bytes w)
    c.requires.ascii_suffix c.requires.ends.1 in
    omega (arith, p)

pub truncate-requires : goal.truncate-requires
truncate-requires c _ =
    let w = c.args.word.now in
    let n : length (string_bytes w) - length c.args.suffix.now ≡ c.len.result - length c.args.suffix.now =
    omega arith in
    subst (λ (m : ℕ). IsSplitPoint (string_bytes w) m) n
    (suffix_boundary (string_bytes w) c.requires.ends.0 c.args.suffix.now (IsUtf8-string_bytes w)
    c.requires.ascii_suffix c.requires.ends.1)

pub unwrap-requires : goal.unwrap-requires
unwrap-requires c =
    let w = c.args.word.now in
    let p = suffix_place (string_bytes w) c.requires.ends.0 c.args.suffix.now (IsUtf8-string_bytes w)
    c.requires.ascii_suffix c.requires.ends.1 in
    c.push_str.ensures.succeeds (omega (arith, p))

pub returns : goal.returns
returns c s e =
    let w = c.args.word.now in
    let n : c.len.result - length c.args.suffix.now ≡ length (string_bytes w) - length c.args.suffix.now =
    omega arith in
    let pushed = rw c.unwrap.ensures at c.push_str.ensures.bytes in
    replaced (string_bytes w) _ s c.args.suffix.now c.args.ending.now (IsUtf8-string_bytes w) c.requires.ascii_suffix
    c.requires.ascii_ending
    (pushed ∙ ap (λ t. t ++ c.args.ending.now) (rw n at c.truncate.ensures.bytes)) e
