use Rattle.std.proofs.Common.{refl, ◌∙◌}
use Rattle.std.specs.Prelude.{Some}
use Rattle.iv_kernel.specs.declared.theorems.NamedThm.{NamedThm}
use Rattle.iv_run.proofs.MachineSteps.{AllClosed-push, names-push}
use Rattle.iv_run.proofs.machine.Vm.keep.Goals as goal

pub enter-requires-clause-sound : goal.enter-requires-clause-sound
enter-requires-clause-sound c =
    let n : NamedThm = record { name = Some c.args.label; thm = c.args.thm } in
    rw c.in_ok-push_named.ensures.ok
    (record {
      closed = AllClosed-push _ _ c.requires.sound.closed c.requires.closed;
      names = λ q. c.in_default.ensures.ok q ∙ names-push q c.args.label _ c.args.self.now.theorems n (c.requires.sound.names q) refl;
      claim = c.requires.sound.claim;
    })
