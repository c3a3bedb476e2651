use Rattle.search.proofs.stages.some_plan.Goals as goal

-- the answer of the last search
pub returns-else-denied : goal.returns-else-denied
returns-else-denied c = c.whole.ensures
