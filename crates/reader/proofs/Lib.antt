mod Tagged
mod Bodies
mod Stored
mod Exits
mod Leaves
mod KeyLaws
mod KeySteps
mod Snoc
mod PairSteps
mod HeadTexts
mod ContainerSteps
mod WholeSteps
mod ScalarTexts
pub mod Promised
