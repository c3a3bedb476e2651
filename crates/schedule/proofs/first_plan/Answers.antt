-- The task is one for the search, and what the search and the instances answer is the answer to question 6.
use Rattle.std.proofs.Common.{subst, refl}
use Rattle.dependence.specs.declared.Graph.{Graph}
use Rattle.dependence.specs.Answer.{TableAnswer, Lags}
use Rattle.model.specs.TaskLaws.{instances_few, task_ok}
use Rattle.schedule.specs.Served.{lags_found, denied_answer, given_answer}
use Rattle.schedule.proofs.first_plan.Goals as goal

pub first_plan-found-requires : goal.first_plan-found-requires
first_plan-found-requires c =
    let a = c.args in
    task_ok a.sheet a.interval c.lags-lags.result c.task_of-task.result c.requires.0.accepted.sheet c.requires.0.accepted.interval c.task_of-task.ensures

pub instances-u-requires : goal.instances-u-requires
instances-u-requires c =
    let a = c.args in
    let sheet = c.requires.0.accepted.sheet in
    let interval = c.requires.0.accepted.interval in
    ((task_ok a.sheet a.interval c.lags-lags.result c.task_of-task.result sheet interval c.task_of-task.ensures).ops_ok, λ kind h. instances_few a.sheet a.interval c.lags-lags.result c.task_of-task.result sheet interval c.task_of-task.ensures kind)

pub returns-in-Some : goal.returns-in-Some
returns-in-Some c =
    let a = c.args in
    let lags = lags_found c.requires.0 (subst (λ (g : Graph). TableAnswer g a.interval (Lags g a.interval) c.lags-lags.result) c.requires.1 c.lags-lags.ensures) in
    given_answer c.requires.0 c.lags-lags.result lags c.task_of-task.result c.task_of-task.ensures c.allowed_domain-domain.result c.allowed_domain-domain.ensures c.in-Some.ensures refl
    c.cut-starts.result c.instances-u.result c.cut-instances.result c.cut-starts.ensures c.instances-u.ensures c.cut-instances.ensures

pub returns : goal.returns
returns c =
    let a = c.args in
    let lags = lags_found c.requires.0 (subst (λ (g : Graph). TableAnswer g a.interval (Lags g a.interval) c.lags-lags.result) c.requires.1 c.lags-lags.ensures) in
    denied_answer c.requires.0 c.lags-lags.result lags c.task_of-task.result c.task_of-task.ensures c.allowed_domain-domain.result c.allowed_domain-domain.ensures c.in_default.ensures refl c.refusal.ensures
