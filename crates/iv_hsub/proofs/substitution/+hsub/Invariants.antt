use Rattle.iv_hsub.specs.Hsub.{happ}
use Rattle.iv_hsub.proofs.Terms.Steps.{steps_put, steps_put_all, steps_put_head, steps_happ}
use Rattle.iv_hsub.proofs.substitution.+hsub.Given as goal

abbrev pub decreases-happ : goal.decreases-happ
decreases-happ l = steps_happ l.a.now l.v.now l.args.now

abbrev pub decreases-put : goal.decreases-put
decreases-put l = steps_put (steps_happ l.a.now) (happ l.a.now) l.v.now l.k l.t.now

abbrev pub decreases-put_all : goal.decreases-put_all
decreases-put_all l = steps_put_all (steps_happ l.a.now) (happ l.a.now) l.v.now l.k l.ts.now

abbrev pub decreases-put_head : goal.decreases-put_head
decreases-put_head l = steps_put_head (steps_happ l.a.now) l.v.now l.k l.h.now l.args.now
