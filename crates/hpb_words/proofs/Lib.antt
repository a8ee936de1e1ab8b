mod Asking
mod Options
mod ValueTexts
