use Rattle.std.specs.Prelude.{codes}
use Rattle.pl_reader.proofs.Tables.{front_get, front_grown, front_then}
use Rattle.pl_reader.proofs.reading.grammar_names.Goals as goal

pub returns-clause-grammar : goal.returns-clause-grammar
returns-clause-grammar c =
    let a = c.intern.new.self in
    let b = c.intern-2.new.self in
    let d = c.intern-3.new.self in
    let e = c.intern-4.new.self in
    let bd = front_grown b d (codes "{}") c.in_ok-curly.ensures.ok in
    let de = front_grown d e (codes ".") c.in_ok-dot.ensures.ok in
    let be = front_then b d e bd de in
    let ae = front_then a b e (front_grown a b (codes "[]") c.in_ok-nil.ensures.ok) be in
    record {
      comma_at = front_get a e c.in_ok-comma.comma.0 (codes ",") ae c.in_ok-comma.ensures.number;
      nil_at = front_get b e c.in_ok-nil.nil.0 (codes "[]") be c.in_ok-nil.ensures.number;
      curly_at = front_get d e c.in_ok-curly.curly.0 (codes "{}") de c.in_ok-curly.ensures.number;
      dot_at = c.in_ok-dot.ensures.number;
    }
