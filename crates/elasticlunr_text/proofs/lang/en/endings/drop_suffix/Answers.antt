use Rattle.std.proofs.Common.{ℕ, ◌≡◌, ◌-◌, subst, arith, string_bytes, length}
use Rattle.std.specs.String.Boundary.{IsSplitPoint}
use Rattle.std.proofs.lemmas.Str.{IsUtf8-string_bytes}
use Rattle.elasticlunr_text.proofs.EndingLemmas.{suffix_place, suffix_boundary, dropped}
use Rattle.elasticlunr_text.proofs.lang.en.endings.drop_suffix.Goals as goal

pub overflow_sub-len : goal.overflow_sub-len
overflow_sub-len c =
    let w = c.args.word.now in
    let p = suffix_place (string_bytes w) c.requires.ends.0 c.args.suffix.now (IsUtf8-string_bytes w) c.requires.ascii
    c.requires.ends.1 in
    omega (arith, p)

pub truncate-requires : goal.truncate-requires
truncate-requires c _ =
    let w = c.args.word.now in
    let n : length (string_bytes w) - length c.args.suffix.now ≡ c.len.result - length c.args.suffix.now =
    omega arith in
    subst (λ (m : ℕ). IsSplitPoint (string_bytes w) m) n
    (suffix_boundary (string_bytes w) c.requires.ends.0 c.args.suffix.now (IsUtf8-string_bytes w) c.requires.ascii
    c.requires.ends.1)

pub returns-clause-lost : goal.returns-clause-lost
returns-clause-lost c =
    let w = c.args.word.now in
    let n : c.len.result - length c.args.suffix.now ≡ length (string_bytes w) - length c.args.suffix.now =
    omega arith in
    dropped (string_bytes w) _ c.requires.ends.0 c.args.suffix.now (IsUtf8-string_bytes w) c.requires.ascii
    (rw n at c.truncate.ensures.bytes) c.requires.ends.1

pub returns-clause-length : goal.returns-clause-length
returns-clause-length c =
    let w = c.args.word.now in
    let p = suffix_place (string_bytes w) c.requires.ends.0 c.args.suffix.now (IsUtf8-string_bytes w) c.requires.ascii
    c.requires.ends.1 in
    omega (arith, p, c.truncate.ensures.len)
