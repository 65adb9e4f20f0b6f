use Rattle.std.proofs.Common.{ℕ, ◌≡◌, ◌≤◌, true, false, not, List, length, refl, sym, ap, ap₂, ◌∙◌, arith, Some}
use Rattle.std.specs.Option.{ForSome}
use Rattle.dedup_lines.specs.{Kept.has_line, Push.bytes_of, Push.to_back, Push.trimmed, Recent.recent_lines}
use Rattle.dedup_lines.proofs.Remembered.{has_line-bytes_of, bytes_of-to_back_as_is, bytes_of-to_back, trimmed-all}
use Rattle.dedup_lines.proofs.recent.Recent.push.Goals as goal

pub returns-then-refresh-clause-is_new : goal.returns-then-refresh-clause-is_new
returns-then-refresh-clause-is_new g c =
    let present : has_line (recent_lines c.args.self.now) c.args.line.now ≡ true =
    sym (has_line-bytes_of c.args.line.now c.args.self.now.lines.items) ∙ sym c.refresh.ensures.present ∙ c.if-refresh.true in
    ap not (sym present)

pub returns-then-refresh-clause-lines : goal.returns-then-refresh-clause-lines
returns-then-refresh-clause-lines g c =
    let present : has_line (recent_lines c.args.self.now) c.args.line.now ≡ true =
    sym (has_line-bytes_of c.args.line.now c.args.self.now.lines.items) ∙ sym c.refresh.ensures.present ∙ c.if-refresh.true in
    let moved : bytes_of c.refresh.new.self.items ≡ to_back (recent_lines c.args.self.now) c.args.line.now =
    ap bytes_of c.refresh.ensures.items ∙ bytes_of-to_back_as_is c.args.line.now c.args.self.now.lines.items present in
    let within : ForSome c.args.self.now.size (λ n. length c.refresh.new.self.items ≤ n) =
    λ (n : ℕ) (some : c.args.self.now.size ≡ Some n). let before = c.args.self.now.within n some in omega
    (arith, before, c.refresh.ensures.len) in
    sym (trimmed-all c.args.self.now.size c.refresh.new.self.items within) ∙ ap (trimmed c.args.self.now.size) moved

pub returns-clause-is_new : goal.returns-clause-is_new
returns-clause-is_new g c =
    let absent : has_line (recent_lines c.args.self.now) c.args.line.now ≡ false =
    sym (has_line-bytes_of c.args.line.now c.args.self.now.lines.items) ∙ sym c.refresh.ensures.present ∙ c.if-refresh.false in
    ap not (sym absent)

pub returns-clause-lines : goal.returns-clause-lines
returns-clause-lines g c =
    let same : c.refresh.new.self.items ≡ c.args.self.now.lines.items = rw (c.refresh.ensures.unchanged c.if-refresh.false) refl in
    let copied : c.in_ok-key.key.items ≡ c.args.line.now = c.in_ok-key.ensures.items_if_clones_equal (λ x y is. is) in
    let inserted : bytes_of c.insert.new.self.items ≡ to_back (bytes_of c.refresh.new.self.items) c.in_ok-key.key.items =
    ap bytes_of c.in_ok-insert.ensures.items ∙ bytes_of-to_back c.refresh.new.self.items c.in_ok-key.key in
    c.trim.ensures.lines
    ∙ ap (trimmed c.args.self.now.size) (inserted ∙ ap₂ (λ items (line : List ℕ). to_back (bytes_of items) line) same copied)
