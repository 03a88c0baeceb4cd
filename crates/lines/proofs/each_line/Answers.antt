use Rattle.std.proofs.Common.{rules, ◌≡◌, ℕ, List, [], ◌++◌, take, sym, subst, append_assoc}
use Rattle.std.proofs.KnownBytes.{Consumes-trans}
use Rattle.std.proofs.lemmas.Result.{on_ok_weaker}
use Rattle.std.specs.Io.KnownBytes.{Consumes}
use Rattle.lines.specs.Inputs.{Handles, lines_of}
use Rattle.lines.proofs.each_line.Goals as goal

pub returns-then-n-eq0-clause-handles : goal.returns-then-n-eq0-clause-handles
returns-then-n-eq0-clause-handles g c =
    let i = c.loop.invariant in
    let e : c.in_ok-n.n ≡ 0 = search rules in
    let last = subst (λ n. Consumes (g.R.Read.remaining c.loop.input) (g.R.Read.remaining c.read.new.self) (take n c.read.new.buf)) e c.in_ok-n.ensures.bytes.0 in
    on_ok_weaker {Q = (x : List ℕ) × Consumes (g.R.Read.remaining c.args.input.now) (g.R.Read.remaining c.read.new.self) x × Handles g.L.Listener.handles c.args.listener.now (lines_of x) c.tell_last.new.listener} _
    (λ h. (i.0 ++ [], Consumes-trans _ _ _ i.0 [] i.1.0 last, i.1.1 [] _ h)) c.tell_last.ensures.handles

pub loop-preserved : goal.loop-preserved
loop-preserved g c =
    let i = c.loop.invariant in
    let told : List ℕ = take c.in_ok-n.n c.read.new.buf in
    (i.0 ++ told, (Consumes-trans _ _ _ i.0 told i.1.0 c.in_ok-n.ensures.bytes.0, λ left end h. subst (λ xs. Handles g.L.Listener.handles c.args.listener.now (lines_of xs) end) (sym (append_assoc i.0 told left)) (i.1.1 (told ++ left) end (c.in_ok-tell_bytes.ensures.handles left end h))))
